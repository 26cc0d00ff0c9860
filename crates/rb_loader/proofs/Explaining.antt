-- An explanation of the text that was read is one of the input.
use Rattle.std.proofs.Common.{◌≡◌, ℕ, List, Option, Some, None, refl, sym, subst}
use Rattle.std.specs.Io.KnownBytes.{Appends}
use Rattle.rb_program.specs.declared.shape_fault.ShapeFaultKind.{ShapeFaultKind}
use Rattle.rb_program.specs.declared.shape_fault.ShapeFaultKind.TheVariants.{Backward, OutOfProgram, IntoWide, FallsOff, Unreachable, Memory}
use Rattle.rb_explain.specs.Explanations.{ExplainsAs}
use Rattle.rb_explain.specs.declared.explanation.Reason.{Reason}
use Rattle.rb_explain.specs.declared.explanation.Reason.TheVariants.{Text, Decode, Shape, Rule}
use Rattle.rb_json.specs.declared.form.LineForm.{LineForm}
use Rattle.rb_verifier.specs.Annotation.{state_at}
use Rattle.rb_verifier.specs.Subject.{Subject}
use Rattle.rb_loader.specs.Acceptance.{IsAccepted, shape_fault_at}
use Rattle.rb_loader.specs.Explained.{ExplainsRefusal, fault_of_reason}
use Rattle.rb_loader.specs.declared.program.ProgramFault.{ProgramFault}

module _ (form : LineForm) (text : List ℕ) (ctx_len rings : ℕ) where
  abbrev Explains : Option Reason → List ℕ → Type 0
  Explains reason told = ExplainsAs form text (record { ctx_len = ctx_len; rings = rings }) reason told

  -- a text that is explained as an accepted program is accepted
  pub accepted_of : (told : List ℕ) → Explains None told → (subject : Subject) × IsAccepted text ctx_len rings subject
  accepted_of told e = (
    record { program = e.2.0; ctx_len = ctx_len; rings = rings },
    record { bytes = e.0; hex = e.1; spelled = e.2.1.program_of.spelled; bounds = e.2.1.program_of.bounds; well_shaped = e.2.1.well_shaped; context = refl; known = refl; valid = (state_at e.2.2.listed.states, e.2.2.listed.least.valid) },
  )

  module _ (before after : Option (List ℕ)) (told : List ℕ) (printed : Appends before after told) where
    abbrev Right : ProgramFault → Type 0
    Right fault = ExplainsRefusal form text ctx_len rings before after fault

    -- the explanation of a shape fault was printed; a failed allocation has none
    shape_refusal : (unit : ℕ) (kind : ShapeFaultKind) → Explains (Some (Shape (record { unit = unit; kind = kind }))) told → Right (shape_fault_at kind unit)
    shape_refusal unit Memory e = absurd e.2.2.here.stands
    shape_refusal unit Backward e = record { reason = Shape (record { unit = unit; kind = Backward }); fault_is = refl; told = told; explained = e; printed = printed }
    shape_refusal unit OutOfProgram e = record { reason = Shape (record { unit = unit; kind = OutOfProgram }); fault_is = refl; told = told; explained = e; printed = printed }
    shape_refusal unit IntoWide e = record { reason = Shape (record { unit = unit; kind = IntoWide }); fault_is = refl; told = told; explained = e; printed = printed }
    shape_refusal unit FallsOff e = record { reason = Shape (record { unit = unit; kind = FallsOff }); fault_is = refl; told = told; explained = e; printed = printed }
    shape_refusal unit Unreachable e = record { reason = Shape (record { unit = unit; kind = Unreachable }); fault_is = refl; told = told; explained = e; printed = printed }

    -- the same for any reason
    refusal : (reason : Reason) → Explains (Some reason) told → Right (fault_of_reason reason)
    refusal Text e = record { reason = Text; fault_is = refl; told = told; explained = e; printed = printed }
    refusal (Decode fault) e = record { reason = Decode fault; fault_is = refl; told = told; explained = e; printed = printed }
    refusal (Shape fault) e = shape_refusal fault.unit fault.kind e
    refusal (Rule unit rule) e = record { reason = Rule unit rule; fault_is = refl; told = told; explained = e; printed = printed }

  pub refusal_of : (before after : Option (List ℕ)) (reason : Reason) (fault : ProgramFault) (told out : List ℕ) → fault ≡ fault_of_reason reason → Explains (Some reason) told
      → out ≡ told → Appends before after out → ExplainsRefusal form text ctx_len rings before after fault
  refusal_of before after reason fault told out names explained same wrote =
      subst (ExplainsRefusal form text ctx_len rings before after) (sym names) (refusal before after told (subst (Appends before after) same wrote) reason explained)
