-- The output of `explain` for a program's text, and its result (own).
use Rattle.std.specs.Prelude.{◌≡◌, ℕ, Bool, List, ◌++◌, Option, Some, None}
use Rattle.std.specs.Io.KnownBytes.{Appends, Keeps}
use Rattle.rb_explain.specs.Explanations.{ExplainsAs}
use Rattle.rb_explain.specs.declared.explanation.Reason.{Reason}
use Rattle.rb_explain.specs.declared.explanation.Reason.TheVariants as reasons
use Rattle.rb_json.specs.declared.form.LineForm.{LineForm}
use Rattle.rb_verifier.specs.Rules.{rule_number}
use Rattle.rb_verifier.specs.declared.limits.Limits.{Limits}
use Rattle.rb_loader.specs.Acceptance.{fault_of_shape}
use Rattle.rb_loader.specs.RequestedFindings.{TellsRequested}
use Rattle.rb_loader.specs.declared.program.ProgramFault.{ProgramFault}
use Rattle.rb_loader.specs.declared.program.ProgramFault.TheVariants.{Text, Decode, Verify, Memory, Device}

-- the reason for a refusal, as a fault of a program
abbrev pub fault_of_reason : Reason → ProgramFault
fault_of_reason reasons.Text = Text
fault_of_reason (reasons.Decode fault) = Decode fault.kind fault.unit
fault_of_reason (reasons.Shape fault) = fault_of_shape fault
fault_of_reason (reasons.Rule unit rule) = Verify (rule_number rule) unit

-- the text is that of an accepted program, and `told` is its explanation, followed by the lines of the units that Linux
-- refuses if they are requested
pub record ExplainsAccepted (portable : Bool) (form : LineForm) (text : List ℕ) (limits : Limits) (told : List ℕ) : Type 0 where
  pub explanation : List ℕ
  pub explained : ExplainsAs form text limits None explanation
  pub findings : List ℕ
  pub found : TellsRequested portable form text limits.ctx_len limits.rings findings
  pub told_is : told ≡ explanation ++ findings

-- exactly that was printed
abbrev pub PrintsExplanation : Bool → LineForm → List ℕ → (ctx_len rings : ℕ) → (before after : Option (List ℕ)) → Type 0
PrintsExplanation portable form text ctx_len rings before after = (told : List ℕ) × ExplainsAccepted portable form text (record { ctx_len = ctx_len; rings = rings }) told × Appends before after told

-- exactly the explanation of a refusal was printed, and this is the fault that it explains
pub record ExplainsFault (form : LineForm) (text : List ℕ) (ctx_len rings : ℕ) (before after : Option (List ℕ)) (fault : ProgramFault) : Type 0 where
  pub reason : Reason
  pub fault_is : fault ≡ fault_of_reason reason
  pub told : List ℕ
  pub explained : ExplainsAs form text (record { ctx_len = ctx_len; rings = rings }) (Some reason) told
  pub printed : Appends before after told

-- what was printed for an input that is refused with this fault: nothing if an allocation failed, and the explanation
-- if the device did not fail
abbrev pub ExplainsRefusal : LineForm → List ℕ → ℕ → ℕ → Option (List ℕ) → Option (List ℕ) → ProgramFault → Type 0
ExplainsRefusal form input ctx_len rings before after Memory = Keeps before after
ExplainsRefusal form input ctx_len rings before after Device = Unit {0}
ExplainsRefusal form input ctx_len rings before after fault = ExplainsFault form input ctx_len rings before after fault
