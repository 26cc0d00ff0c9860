-- When the text of a program is accepted, and otherwise why it is refused: the first fault of the first layer that has
-- one (own).
use Rattle.std.specs.Prelude.{◌≡◌, ℕ, List}
use Rattle.rb_insn.specs.declared.insn.Insn.{Insn}
use Rattle.rb_insn.specs.Spelling.{SpellsAll}
use Rattle.rb_program.specs.FirstDecodeFault.{IsFirstDecodeFault}
use Rattle.rb_program.specs.Program.{IsProgram}
use Rattle.rb_program.specs.Text.{IsHexOf, without_white_space}
use Rattle.rb_program.specs.declared.fault.DecodeKind.{DecodeKind}
use Rattle.rb_program.specs.declared.fault.TextFault.{TextFault}
use Rattle.rb_program.specs.declared.fault.TextFault.TheVariants as text_faults
use Rattle.rb_program.specs.Shape.{IsWellShaped}
use Rattle.rb_program.specs.ShapeFaults.{IsFirstShapeFault}
use Rattle.rb_program.specs.declared.shape_fault.ShapeFault.{ShapeFault}
use Rattle.rb_program.specs.declared.shape_fault.ShapeFaultKind.{ShapeFaultKind}
use Rattle.rb_program.specs.declared.shape_fault.ShapeFaultKind.TheVariants as shape_faults
use Rattle.rb_verifier.specs.Rules.{rule_number}
use Rattle.rb_verifier.specs.declared.rule.Rule.{Rule}
use Rattle.rb_verifier.specs.Annotation.{HasNoValid, HasValid, IsFirstBrokenRule}
use Rattle.rb_verifier.specs.Subject.{Subject, limits_of}
use Rattle.rb_explain.specs.Explanations.{IsNoHex}
use Rattle.rb_loader.specs.declared.program.ProgramFault.{ProgramFault}
use Rattle.rb_loader.specs.declared.program.ProgramFault.TheVariants.{Text, Decode, Shape, Verify, Memory, Device}

-- the text is the hex encoding of the program, with white space anywhere; the program is well shaped, and has a valid
-- annotation for a context of `ctx_len` bytes and for `rings` rings
pub record IsAccepted (text : List ℕ) (ctx_len rings : ℕ) (subject : Subject) : Type 0 where
  pub bytes : List ℕ
  pub hex : IsHexOf (without_white_space text) bytes
  pub spelled : SpellsAll subject.program bytes
  pub bounds : IsProgram subject.program
  pub well_shaped : IsWellShaped subject.program
  pub context : subject.ctx_len ≡ ctx_len
  pub known : subject.rings ≡ rings
  pub valid : HasValid (limits_of subject) subject.program

-- the text is the hex encoding of bytes, and this is their first fault
pub record HasFirstDecodeFault (text : List ℕ) (kind : DecodeKind) (unit : ℕ) : Type 0 where
  pub bytes : List ℕ
  pub hex : IsHexOf (without_white_space text) bytes
  pub first : IsFirstDecodeFault bytes (record { unit = unit; kind = kind })

-- the text is the hex encoding of a program, and this is the first fault of its shape
pub record HasFirstShapeFault (text : List ℕ) (kind : ShapeFaultKind) (unit : ℕ) : Type 0 where
  pub program : List Insn
  pub bytes : List ℕ
  pub hex : IsHexOf (without_white_space text) bytes
  pub spelled : SpellsAll program bytes
  pub bounds : IsProgram program
  pub first : IsFirstShapeFault program (record { unit = unit; kind = kind })

-- the text is the hex encoding of a well-shaped program, which has no valid annotation for such a context and so many
-- rings; the rule with this number is the first that it breaks
pub record HasFirstBrokenRule (text : List ℕ) (ctx_len rings number unit : ℕ) : Type 0 where
  pub program : List Insn
  pub bytes : List ℕ
  pub rule : Rule
  pub hex : IsHexOf (without_white_space text) bytes
  pub spelled : SpellsAll program bytes
  pub bounds : IsProgram program
  pub well_shaped : IsWellShaped program
  pub no_valid : HasNoValid (record { ctx_len = ctx_len; rings = rings }) program
  pub first : IsFirstBrokenRule (record { ctx_len = ctx_len; rings = rings }) program unit rule
  pub number_is : number ≡ rule_number rule

-- the fault is that of the text, for such a context and so many rings; a failed allocation and a failed device say
-- nothing about the text
abbrev pub IsRightFault : List ℕ → ℕ → ℕ → ProgramFault → Type 0
IsRightFault text ctx_len rings Text = IsNoHex text
IsRightFault text ctx_len rings (Decode kind unit) = HasFirstDecodeFault text kind unit
IsRightFault text ctx_len rings (Shape kind unit) = HasFirstShapeFault text kind unit
IsRightFault text ctx_len rings (Verify number unit) = HasFirstBrokenRule text ctx_len rings number unit
IsRightFault text ctx_len rings _ = Unit {0}

-- ---- faults of lower layers, as faults of a program

abbrev pub fault_of_text : TextFault → ProgramFault
fault_of_text text_faults.NotHex = Text
fault_of_text text_faults.Memory = Memory
fault_of_text (text_faults.Decode fault) = Decode fault.kind fault.unit

abbrev pub shape_fault_at : ShapeFaultKind → ℕ → ProgramFault
shape_fault_at shape_faults.Memory unit = Memory
shape_fault_at kind unit = Shape kind unit

abbrev pub fault_of_shape : ShapeFault → ProgramFault
fault_of_shape fault = shape_fault_at fault.kind fault.unit
