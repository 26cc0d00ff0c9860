-- Abstract arithmetic: the abstract results of arithmetic instructions (own profile). Known numbers are computed by the
-- concrete meaning of the instructions.
use Rattle.std.specs.Prelude.{ℕ, ℤ, ◌+ℤ◌, ◌-ℤ◌, neg_ℤ, pos, ◌^◌, Bool, ◌&&◌, int_le, Option, Some, None, Result, Ok, Err, if◌then◌else◌}
use Rattle.rb_insn.specs.ArithmeticAndJumps.{value_of}
use Rattle.rb_insn.specs.WholeNumbers.{signed_of, wrapped}
use Rattle.rb_insn.specs.declared.insn.Insn.{Insn}
use Rattle.rb_insn.specs.declared.insn.BinaryOp.{BinaryOp}
use Rattle.rb_insn.specs.declared.insn.BinaryOp.TheVariants.{Add, Sub}
use Rattle.rb_insn.specs.declared.insn.Operand.{Operand}
use Rattle.rb_insn.specs.declared.insn.Operand.TheVariants.{Immediate, Register}
use Rattle.rb_insn.specs.declared.insn.Width.{Width}
use Rattle.rb_insn.specs.declared.insn.Width.TheVariants.{W64}
use Rattle.rb_verifier.specs.declared.arithmetic.Direction.{Direction}
use Rattle.rb_verifier.specs.declared.arithmetic.Direction.TheVariants.{Forward, Back}
use Rattle.rb_verifier.specs.declared.rule.Rule.{Rule}
use Rattle.rb_verifier.specs.declared.rule.Rule.TheVariants as rule
use Rattle.rb_verifier.specs.declared.state.AbsState.{AbsState}
use Rattle.rb_verifier.specs.declared.value.Abs.{Abs}
use Rattle.rb_verifier.specs.declared.value.Abs.TheVariants.{Number, Known, Ctx, Stack, Record}
use Rattle.rb_verifier.specs.ValueChecks.{◌>>=◌, check_number}
use Rattle.rb_verifier.specs.AbstractStates.{value_in}

-- the abstract value of the second operand: an immediate is sign-extended to 64 bits
abbrev pub operand_value : Operand → AbsState → Abs
operand_value (Immediate k) s = Known (wrapped 64 k)
operand_value (Register r) s = value_in s r.number

-- the result of an instruction if dst and src are known, otherwise any number; for an instruction that reads only one
-- of them, the caller passes an arbitrary number for the other
abbrev pub abstract_result : Insn → Abs → Abs → Abs
abstract_result insn (Known dst) (Known src) = Known (value_of insn dst src)
abstract_result insn dst src = Number

-- arithmetic on numbers
abbrev pub check_numbers : Insn → Abs → Abs → Result Abs Rule
check_numbers insn dst src = do
  _ ← check_number rule.PointerArithmetic dst
  _ ← check_number rule.PointerArithmetic src
  Ok (abstract_result insn dst src)

-- the direction in which a 64-bit ADD or SUB moves a pointer's offset
abbrev pub direction_of : Width → BinaryOp → Option Direction
direction_of W64 Add = Some Forward
direction_of W64 Sub = Some Back
direction_of _ _ = None

-- an offset after it is moved by a number, read as signed
abbrev pub moved_offset : Direction → ℤ → ℕ → ℤ
moved_offset Forward offset by = offset +ℤ signed_of 64 by
moved_offset Back offset by = offset -ℤ signed_of 64 by

-- the bounds of a pointer's offset, -2^30 to 2^30 (own bounds)
abbrev pub is_near : ℤ → Bool
is_near offset = int_le (neg_ℤ (pos (2 ^ 30))) offset && int_le offset (pos (2 ^ 30))

abbrev pub check_near : ℤ → Result ℤ Rule
check_near offset = if is_near offset then Ok offset else Err rule.PointerArithmetic

-- arithmetic on two operands: a pointer into a part may move by a known number; any other operands must be numbers
abbrev pub check_arithmetic : Option Direction → Insn → Abs → Abs → Result Abs Rule
check_arithmetic (Some direction) insn (Ctx offset) (Known by) = check_near (moved_offset direction offset by) >>= (λ to. Ok (Ctx to))
check_arithmetic (Some direction) insn (Stack offset) (Known by) = check_near (moved_offset direction offset by) >>= (λ to. Ok (Stack to))
check_arithmetic (Some direction) insn (Record id offset) (Known by) = check_near (moved_offset direction offset by) >>= (λ to. Ok (Record id to))
check_arithmetic direction insn dst src = check_numbers insn dst src
