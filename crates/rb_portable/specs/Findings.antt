-- At which units Linux refuses an accepted program, and what is printed about them (own).
use Rattle.std.specs.Prelude.{◌≡◌, ℕ, zero, suc, List, [], ◌∷◌, ◌++◌, codes, Option, Some, None}
use Rattle.std.specs.Fmt.{decimal}
use Rattle.std.specs.List.{flat_map}
use Rattle.rb_insn.specs.declared.insn.Insn.{Insn}
use Rattle.rb_json.specs.declared.form.LineForm.{LineForm}
use Rattle.rb_json.specs.declared.form.LineForm.TheVariants.{Words, Json}
use Rattle.rb_program.specs.Program.{unit_count, slot_at}
use Rattle.rb_verifier.specs.Annotation.{Annotation, state_at, IsLeast}
use Rattle.rb_verifier.specs.Subject.{Subject, limits_of}
use Rattle.rb_verifier.specs.declared.state.AbsState.{AbsState}
use Rattle.rb_portable.specs.Portability.{class_of, class_name}
use Rattle.rb_portable.specs.declared.finding.Finding.{Finding}
use Rattle.rb_portable.specs.declared.linux_class.LinuxClass.{LinuxClass}

-- the finding of a unit, if it has one
abbrev pub found_as : ℕ → Option LinuxClass → List Finding
found_as unit None = []
found_as unit (Some found) = record { class = found; unit = unit } ∷ []

abbrev pub found_in : AbsState → ℕ → Option Insn → List Finding
found_in state unit None = []
found_in state unit (Some insn) = found_as unit (class_of state insn)

-- the finding of the instruction that begins at a unit, given the annotation's state there
abbrev pub found_at : List Insn → Annotation → ℕ → List Finding
found_at program a unit = found_in (a unit) unit (slot_at program unit)

-- the findings of the units below a bound, in unit order
abbrev pub found_below : List Insn → Annotation → ℕ → List Finding
found_below program a zero = []
found_below program a (suc unit) = found_below program a unit ++ found_at program a unit

-- a list is the findings of a program: those by its least valid annotation
pub record AreFindings (subject : Subject) (found : List Finding) : Type 0 where
  pub states : List AbsState
  pub least : IsLeast (limits_of subject) subject.program (state_at states)
  pub found_is : found ≡ found_below subject.program (state_at states) (unit_count subject.program)

-- the line of a finding: in words, or as a JSON object
abbrev pub finding_text : LineForm → Finding → List ℕ
finding_text Words finding = codes "linux " ++ class_name finding.class ++ codes " unit " ++ decimal finding.unit ++ codes "\n"
finding_text Json finding = codes "{\"linux\":\"" ++ class_name finding.class ++ codes "\",\"unit\":" ++ decimal finding.unit ++ codes "}\n"

-- a text is the lines of a program's findings
pub record TellsFindings (form : LineForm) (subject : Subject) (text : List ℕ) : Type 0 where
  pub found : List Finding
  pub are : AreFindings subject found
  pub text_is : text ≡ flat_map (finding_text form) found
