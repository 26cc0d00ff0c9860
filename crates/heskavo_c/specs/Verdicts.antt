-- When the bytes of a program are accepted, and otherwise its verdict: the first fault of the first layer that has one
-- (own).
use Rattle.std.specs.Prelude.{◌≡◌, ℕ, ◌≤◌, List}
use Rattle.rb_insn.specs.declared.insn.Insn.{Insn}
use Rattle.rb_insn.specs.Spelling.{SpellsAll}
use Rattle.rb_program.specs.FirstDecodeFault.{IsFirstDecodeFault}
use Rattle.rb_program.specs.Program.{IsProgram}
use Rattle.rb_program.specs.declared.fault.DecodeKind.{DecodeKind}
use Rattle.rb_program.specs.declared.fault.DecodeKind.TheVariants as decode_faults
use Rattle.rb_program.specs.Shape.{IsWellShaped}
use Rattle.rb_program.specs.ShapeFaults.{IsFirstShapeFault}
use Rattle.rb_program.specs.declared.shape_fault.ShapeFault.{ShapeFault}
use Rattle.rb_program.specs.declared.shape_fault.ShapeFaultKind.{ShapeFaultKind}
use Rattle.rb_program.specs.declared.shape_fault.ShapeFaultKind.TheVariants as shape_faults
use Rattle.rb_verifier.specs.Rules.{rule_number}
use Rattle.rb_verifier.specs.declared.rule.Rule.{Rule as BrokenRule}
use Rattle.rb_verifier.specs.Annotation.{HasNoValid, HasValid, IsFirstBrokenRule}
use Rattle.rb_verifier.specs.Subject.{Subject, limits_of}
use Rattle.heskavo_c.specs.declared.load.Refused.{Refused}
use Rattle.heskavo_c.specs.declared.load.Refused.TheVariants.{Bytes, Shape, Rule}
use Rattle.heskavo_c.specs.declared.verdict.Verdict.{Verdict}

-- a program may be verified for contexts of `ctx_len` bytes and `rings` rings
abbrev pub AreBounds : ℕ → ℕ → Type 0
AreBounds ctx_len rings = (ctx_len ≤ 65536) × (rings ≤ 16)

-- the bytes encode the program, which has 1 to 4096 units, is well shaped, and has a valid annotation for contexts of
-- this length and this number of rings
pub record BytesAreAccepted (bytes : List ℕ) (ctx_len rings : ℕ) (subject : Subject) : Type 0 where
  pub spelled : SpellsAll subject.program bytes
  pub bounds : IsProgram subject.program
  pub context : subject.ctx_len ≡ ctx_len
  pub known : subject.rings ≡ rings
  pub well_shaped : IsWellShaped subject.program
  pub valid : HasValid (limits_of subject) subject.program

-- the bytes encode a program, and this is the first fault of its shape
pub record BytesHaveShapeFault (bytes : List ℕ) (fault : ShapeFault) : Type 0 where
  pub program : List Insn
  pub spelled : SpellsAll program bytes
  pub bounds : IsProgram program
  pub first : IsFirstShapeFault program fault

-- The bytes encode a well-shaped program that has no valid annotation for contexts of this length and this number of
-- rings. This rule is the first that it breaks.
pub record BytesBreakRule (bytes : List ℕ) (ctx_len rings unit : ℕ) (rule : BrokenRule) : Type 0 where
  pub program : List Insn
  pub spelled : SpellsAll program bytes
  pub bounds : IsProgram program
  pub well_shaped : IsWellShaped program
  pub no_valid : HasNoValid (record { ctx_len = ctx_len; rings = rings }) program
  pub first : IsFirstBrokenRule (record { ctx_len = ctx_len; rings = rings }) program unit rule

-- the bytes are refused for this reason, for contexts of this length and this number of rings
abbrev pub BytesAreRefused : List ℕ → ℕ → ℕ → Refused → Type 0
BytesAreRefused bytes ctx_len rings (Bytes fault) = IsFirstDecodeFault bytes fault
BytesAreRefused bytes ctx_len rings (Shape fault) = BytesHaveShapeFault bytes fault
BytesAreRefused bytes ctx_len rings (Rule unit rule) = BytesBreakRule bytes ctx_len rings unit rule

-- ---- in numbers

-- the number of a fault of the bytes, in the order in which faults of the same unit are reported; a failed allocation
-- is not one of them
abbrev pub decode_number : DecodeKind → ℕ
decode_number decode_faults.Length = 1
decode_number decode_faults.TooLong = 2
decode_number decode_faults.LeftOut = 3
decode_number decode_faults.BadOpcode = 4
decode_number decode_faults.BadRegister = 5
decode_number decode_faults.UnusedField = 6
decode_number decode_faults.HalfWide = 7
decode_number decode_faults.Memory = 0

-- the number of a fault of the shape
abbrev pub shape_number : ShapeFaultKind → ℕ
shape_number shape_faults.Backward = 1
shape_number shape_faults.OutOfProgram = 2
shape_number shape_faults.IntoWide = 3
shape_number shape_faults.FallsOff = 4
shape_number shape_faults.Unreachable = 5
shape_number shape_faults.Memory = 0

-- layer 1 is the bytes, 2 the shape, 3 the rules
abbrev pub verdict_of : Refused → Verdict
verdict_of (Bytes fault) = record { layer = 1; number = decode_number fault.kind; unit = fault.unit }
verdict_of (Shape fault) = record { layer = 2; number = shape_number fault.kind; unit = fault.unit }
verdict_of (Rule unit rule) = record { layer = 3; number = rule_number rule; unit = unit }

-- this is the verdict on the bytes
pub record IsRightVerdict (bytes : List ℕ) (ctx_len rings : ℕ) (verdict : Verdict) : Type 0 where
  pub refused : Refused
  pub right : BytesAreRefused bytes ctx_len rings refused
  pub in_numbers : verdict ≡ verdict_of refused
