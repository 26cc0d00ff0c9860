-- The explanation of a text.
use Rattle.std.specs.Prelude.{ℕ, Bool, List, Option, Some, None}
use Rattle.rb_explain.specs.Explanations.{ExplainsAs}
use Rattle.rb_explain.specs.declared.explanation.Reason.{Reason}
use Rattle.rb_json.specs.declared.form.LineForm.{LineForm}
use Rattle.rb_verifier.specs.declared.limits.Limits.{Limits}
use Rattle.rb_loader.specs.Explained.{ExplainsAccepted}

-- what is printed for a text: the explanation of an accepted program, or of one that is refused for this reason
abbrev pub ExplainsText : Bool → LineForm → List ℕ → Limits → Option Reason → List ℕ → Type 0
ExplainsText portable form text limits None told = ExplainsAccepted portable form text limits told
ExplainsText portable form text limits (Some reason) told = ExplainsAs form text limits (Some reason) told
