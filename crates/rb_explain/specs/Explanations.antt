-- The explanation of a program: for an accepted one, each instruction with the abstract state before it, followed by
-- the most that the program can cost; for a refused one, the units around its first fault.
use Rattle.std.specs.Prelude.{◌≡◌, ℕ, ◌+◌, ◌*◌, ◌&&◌, ◌||◌, ◌==◌, nat_le, nat_lt, not, Bool, true, List, [], ◌++◌, codes, length, take, drop, string_bytes, Option, Some, None, if◌then◌else◌}
use Rattle.std.specs.List.{list_all}
use Rattle.rb_insn.specs.declared.insn.Insn.{Insn}
use Rattle.rb_insn.specs.Spelling.{SpellsAll}
use Rattle.rb_program.specs.Program.{unit_count, slot_at, IsProgram}
use Rattle.rb_program.specs.Text.{IsHexOf, without_white_space}
use Rattle.rb_program.specs.FirstDecodeFault.{IsFirstDecodeFault}
use Rattle.rb_program.specs.declared.fault.DecodeKind.{DecodeKind}
use Rattle.rb_program.specs.declared.fault.DecodeKind.TheVariants.{Length, TooLong}
use Rattle.rb_program.specs.Shape.{IsWellShaped}
use Rattle.rb_program.specs.ShapeFaults.{IsFirstShapeFault}
use Rattle.rb_program.specs.declared.shape_fault.ShapeFaultKind.{ShapeFaultKind}
use Rattle.rb_json.specs.declared.form.LineForm.{LineForm}
use Rattle.rb_json.specs.declared.form.LineForm.TheVariants.{Words, Json}
use Rattle.rb_verifier.specs.declared.limits.Limits.{Limits}
use Rattle.rb_verifier.specs.declared.rule.Rule.{Rule}
use Rattle.rb_verifier.specs.Annotation.{Annotation, state_at, IsLeast, HasNoValid, IsFirstBrokenRule}
use Rattle.rb_verifier.specs.declared.state.AbsState.{AbsState}
use Rattle.rb_verifier.specs.Subject.{Subject, limits_of}
use Rattle.rb_cost.specs.declared.cost.Cost.{Cost}
use Rattle.rb_cost.specs.Cost.{IsCost}
use Rattle.rb_cost.specs.CostLines.{cost_text}
use Rattle.rb_explain.specs.Joined.{joined_below}
use Rattle.rb_explain.specs.Lines.{line_text, unit_text, bytes_column}
use Rattle.rb_explain.specs.StateTexts.{state_text}
use Rattle.rb_explain.specs.Objects.{known_object, unit_object, bytes_object, fault_object, decode_name, shape_name, rule_name}
use Rattle.rb_explain.specs.declared.explanation.Explanation.{Explanation}
use Rattle.rb_explain.specs.declared.explanation.Reason.{Reason}
use Rattle.rb_explain.specs.declared.explanation.Reason.TheVariants.{Text, Decode, Shape, Rule as Broken}

-- ---- an accepted program

-- an instruction with the abstract state before it: in words, one line each; in JSON, one object
abbrev pub known_text : LineForm → AbsState → ℕ → Insn → List ℕ
known_text Words state unit insn = state_text state ++ line_text unit insn
known_text Json state unit insn = known_object state unit insn

abbrev pub known_slot : LineForm → AbsState → ℕ → Option Insn → List ℕ
known_slot form state unit None = []
known_slot form state unit (Some insn) = known_text form state unit insn

-- the instruction that begins at a unit, with the annotation's state there
abbrev pub known_line : LineForm → List Insn → Annotation → ℕ → List ℕ
known_line form program a unit = known_slot form (a unit) unit (slot_at program unit)

-- each instruction with the annotation's state before it
abbrev pub listing : LineForm → List Insn → Annotation → List ℕ
listing form program a = joined_below (known_line form program a) (unit_count program)

-- the text is the listing of a program, by its least valid annotation
pub record IsListing (form : LineForm) (limits : Limits) (program : List Insn) (text : List ℕ) : Type 0 where
  pub states : List AbsState
  pub least : IsLeast limits program (state_at states)
  pub text_is : text ≡ listing form program (state_at states)

-- the text is the listing of a verified program, followed by the lines of its cost
pub record IsListingWithCost (form : LineForm) (subject : Subject) (text : List ℕ) : Type 0 where
  pub lines : List ℕ
  pub listed : IsListing form (limits_of subject) subject.program lines
  pub cost : Cost
  pub exact : IsCost subject cost
  pub text_is : text ≡ lines ++ cost_text form None cost

-- ---- a refused program: the lines from four units before the fault to four after it, a mark below the faulty one, and
-- the message

abbrev pub mark : List ℕ
mark = codes "   ^\n"

abbrev pub is_near_unit : ℕ → ℕ → Bool
is_near_unit at unit = nat_le unit (at + 4) && nat_le at (unit + 4)

abbrev pub mark_under : ℕ → ℕ → List ℕ
mark_under at unit = if unit == at then mark else codes ""

-- a JSON object has no mark below it, since the object of the fault names its unit
abbrev pub near_text : LineForm → ℕ → ℕ → Insn → List ℕ
near_text Words at unit insn = line_text unit insn ++ mark_under at unit
near_text Json at unit insn = unit_object unit insn

abbrev pub near_slot : LineForm → ℕ → ℕ → Option Insn → List ℕ
near_slot form at unit None = []
near_slot form at unit (Some insn) = if is_near_unit at unit then near_text form at unit insn else []

abbrev pub near_line : LineForm → List Insn → ℕ → ℕ → List ℕ
near_line form program at unit = near_slot form at unit (slot_at program unit)

-- the lines around a unit
abbrev pub window : LineForm → List Insn → ℕ → List ℕ
window form program at = joined_below (near_line form program at) (unit_count program)

-- the message for a fault: in words, a line with the advice after this prefix; in JSON, an object that also has the
-- layer, the name and the unit
abbrev pub message_text : LineForm → (front layer name : List ℕ) → ℕ → List ℕ → List ℕ
message_text Words front layer name unit advice = front ++ advice ++ codes "\n"
message_text Json front layer name unit advice = fault_object layer name unit advice

-- the text can stand between quotation marks in JSON without any escape: it has no control character, quotation mark or
-- backslash (RFC 8259, section 7)
abbrev pub is_plain_byte : ℕ → Bool
is_plain_byte byte = nat_le 32 byte && not (byte == 34 || byte == 92)

abbrev pub IsPlainText : List ℕ → Type 0
IsPlainText text = list_all is_plain_byte text ≡ true

-- the message for a fault begins with its name: `BadOpcode: `
abbrev pub BeginsWithName : (name advice : List ℕ) → Type 0
BeginsWithName name advice = (rest : List ℕ) × (advice ≡ name ++ codes ": " ++ rest)

-- ---- bytes that are not a program: the lines before the fault, and the bytes of the units from it on

abbrev pub raw_text : LineForm → ℕ → ℕ → List ℕ → List ℕ
raw_text Words at unit bytes = unit_text unit ++ codes ": " ++ bytes_column bytes ++ codes "\n" ++ mark_under at unit
raw_text Json at unit bytes = bytes_object unit bytes

-- the bytes of a unit that was not decoded, if the unit exists
abbrev pub raw_line : LineForm → List ℕ → ℕ → ℕ → List ℕ
raw_line form bytes at unit = if nat_lt (8 * unit) (length bytes) then raw_text form at unit (take 8 (drop (8 * unit) bytes)) else []

-- the units that are shown for bytes with a fault at a unit: the lines before it, and the bytes of three units from it
-- on
pub record ShowsUnits (form : LineForm) (bytes : List ℕ) (at : ℕ) (shown : List ℕ) : Type 0 where
  pub front : List Insn
  pub spelled : SpellsAll front (take (8 * at) bytes)
  pub shown_is : shown ≡ window form front at ++ joined_below (λ k. raw_line form bytes at (at + k)) 3

-- a bad length and too many units are not faults of a unit, so no unit is shown
abbrev pub ShowsFront : LineForm → List ℕ → ℕ → DecodeKind → List ℕ → Type 0
ShowsFront form bytes at Length shown = shown ≡ []
ShowsFront form bytes at TooLong shown = shown ≡ []
ShowsFront form bytes at kind shown = ShowsUnits form bytes at shown

-- the units that are shown are followed by the message for the fault
abbrev pub ShowsDecodeFault : LineForm → List ℕ → ℕ → DecodeKind → List ℕ → Type 0
ShowsDecodeFault form bytes at kind text =
    (shown : List ℕ) × (advice : List ℕ) × ShowsFront form bytes at kind shown × BeginsWithName (decode_name kind) advice × (text ≡ shown ++ message_text form [] (codes "decode") (decode_name kind) at advice) × IsPlainText advice

-- the lines around a unit are followed by the message for the fault
abbrev pub ShowsShape : LineForm → List Insn → ℕ → ShapeFaultKind → List ℕ → Type 0
ShowsShape form program at kind text = (advice : List ℕ) × BeginsWithName (shape_name kind) advice × (text ≡ window form program at ++ message_text form [] (codes "shape") (shape_name kind) at advice) × IsPlainText advice

-- the number of a rule: `V10: `
abbrev pub number_text : Rule → List ℕ
number_text rule = rule_name rule ++ codes ": "

-- the same for a broken rule; in words, its number precedes the message
abbrev pub ShowsRule : LineForm → List Insn → ℕ → Rule → List ℕ → Type 0
ShowsRule form program at rule text = (advice : List ℕ) × (text ≡ window form program at ++ message_text form (number_text rule) (codes "verify") (rule_name rule) at advice) × IsPlainText advice

-- ---- the explanation of a text

-- the bytes encode the program
pub record IsProgramOf (bytes : List ℕ) (program : List Insn) : Type 0 where
  pub bounds : IsProgram program
  pub spelled : SpellsAll program bytes

-- the bytes encode the program, which is well shaped
pub record IsShapedProgramOf (bytes : List ℕ) (program : List Insn) : Type 0 where
  pub program_of : IsProgramOf bytes program
  pub well_shaped : IsWellShaped program

-- the text explains the program of these bytes: why it is refused, or that it is accepted
abbrev pub ExplainsBytes : LineForm → List ℕ → Limits → Option Reason → List ℕ → Type 0
ExplainsBytes form bytes limits None text =
    (program : List Insn) × IsShapedProgramOf bytes program × IsListingWithCost form (record { program = program; ctx_len = limits.ctx_len; rings = limits.rings }) text
ExplainsBytes form bytes limits (Some Text) text = ⊥
ExplainsBytes form bytes limits (Some (Decode fault)) text = IsFirstDecodeFault bytes fault × ShowsDecodeFault form bytes fault.unit fault.kind text
ExplainsBytes form bytes limits (Some (Shape fault)) text =
    (program : List Insn) × IsProgramOf bytes program × IsFirstShapeFault program fault × ShowsShape form program fault.unit fault.kind text
ExplainsBytes form bytes limits (Some (Broken unit rule)) text =
    (program : List Insn) × IsShapedProgramOf bytes program × HasNoValid limits program × IsFirstBrokenRule limits program unit rule × ShowsRule form program unit rule text

-- the text is not the hex encoding of any bytes
abbrev pub IsNoHex : List ℕ → Type 0
IsNoHex text = (bytes : List ℕ) → IsHexOf (without_white_space text) bytes → ⊥

-- the message for a text that is not hex
abbrev pub no_hex_text : LineForm → List ℕ
no_hex_text Words = codes "The text is not pairs of hex digits. A program is text in hex, sixteen digits a unit, with white space anywhere.\n"
no_hex_text Json =
    codes "{\"layer\":\"text\",\"advice\":\"The text is not pairs of hex digits. A program is text in hex, sixteen digits a unit, with white space anywhere.\"}\n"

-- the explanation of a program's hex text
abbrev pub ExplainsAs : LineForm → List ℕ → Limits → Option Reason → List ℕ → Type 0
ExplainsAs form text limits (Some Text) told = IsNoHex text × (told ≡ no_hex_text form)
ExplainsAs form text limits reason told = (bytes : List ℕ) × IsHexOf (without_white_space text) bytes × ExplainsBytes form bytes limits reason told

abbrev pub Explains : LineForm → List ℕ → Limits → Explanation → Type 0
Explains form text limits explanation = ExplainsAs form text limits explanation.reason (string_bytes explanation.text)
