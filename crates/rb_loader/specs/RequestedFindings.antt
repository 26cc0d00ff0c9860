-- The lines of the units that Linux refuses, which `check` and `explain` print on request (own).
use Rattle.std.specs.Prelude.{◌≡◌, ℕ, Bool, true, false, List, []}
use Rattle.rb_json.specs.declared.form.LineForm.{LineForm}
use Rattle.rb_portable.specs.Findings.{TellsFindings}
use Rattle.rb_verifier.specs.Subject.{Subject}
use Rattle.rb_loader.specs.Acceptance.{IsAccepted}

-- no lines, or, if they are requested, those of the program of the text
abbrev pub TellsRequested : Bool → LineForm → List ℕ → ℕ → ℕ → List ℕ → Type 0
TellsRequested false form text ctx_len rings lines = lines ≡ []
TellsRequested true form text ctx_len rings lines = (subject : Subject) × IsAccepted text ctx_len rings subject × TellsFindings form subject lines
