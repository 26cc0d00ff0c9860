-- The abstract step: the checks of each instruction in their order, and the state along each edge out of it (own
-- profile).
use Rattle.std.specs.Prelude.{ℕ, ℤ, nat_le, not, Option, None, Result, Ok}
use Rattle.rb_insn.specs.ArithmeticAndJumps.{value_of}
use Rattle.rb_insn.specs.declared.insn.Insn.{Insn}
use Rattle.rb_insn.specs.declared.insn.Insn.TheVariants.{Binary, Division, Negate, Move, MoveExtended32, MoveExtended64, Reorder, Jump, JumpFar, Branch, Call, Exit, LoadNumber, LoadRing, Load, LoadSigned, StoreImmediate, StoreRegister}
use Rattle.rb_insn.specs.declared.insn.Operand.{Operand}
use Rattle.rb_insn.specs.declared.insn.Operand.TheVariants.{Immediate, Register}
use Rattle.rb_insn.specs.declared.insn.Width.TheVariants.{W32, W64}
use Rattle.rb_insn.specs.declared.reg.Reg.{Reg}
use Rattle.rb_verifier.specs.declared.arithmetic.Direction.{Direction}
use Rattle.rb_verifier.specs.declared.limits.Limits.{Limits}
use Rattle.rb_verifier.specs.declared.rule.Rule.{Rule}
use Rattle.rb_verifier.specs.declared.rule.Rule.TheVariants as rule
use Rattle.rb_verifier.specs.declared.state.AbsState.{AbsState}
use Rattle.rb_verifier.specs.declared.state.Effect.{Effect}
use Rattle.rb_verifier.specs.declared.value.Abs.{Abs}
use Rattle.rb_verifier.specs.declared.value.Abs.TheVariants.{Number, Known, Ring}
use Rattle.rb_verifier.specs.AbstractArithmetic.{operand_value, abstract_result, direction_of, check_arithmetic}
use Rattle.rb_verifier.specs.Branches.{null_test_of, check_branch}
use Rattle.rb_verifier.specs.ValueChecks.{◌>>=◌, refused_if, check_writable, check_readable, check_number, check_tested, check_not_context, check_inside}
use Rattle.rb_verifier.specs.HelperChecks.{helper_of, check_call}
use Rattle.rb_insn.specs.Sizes.{byte_count, signed_byte_count}
use Rattle.rb_verifier.specs.KeptPointers.{known_in, byte_behind, check_loaded, check_stored}
use Rattle.rb_verifier.specs.References.{is_empty}
use Rattle.rb_verifier.specs.AbstractStates.{value_in, put, effect_on_both}

-- the effect of setting a register
abbrev pub assignment_effect : Reg → Abs → AbsState → Effect
assignment_effect dst v s = effect_on_both (put s dst.number v)

-- sets a register to this value, whatever it held
abbrev pub check_assign : Reg → Abs → AbsState → Result Effect Rule
check_assign dst v s = do
  _ ← check_writable dst
  Ok (assignment_effect dst v s)

-- a 64-bit move, which copies pointers too
abbrev pub check_copy : Reg → Reg → AbsState → Result Effect Rule
check_copy dst src s = do
  _ ← check_writable dst
  _ ← check_readable (value_in s src.number)
  Ok (assignment_effect dst (value_in s src.number) s)

-- a move that computes its result from a number in src
abbrev pub check_convert : Insn → Reg → Reg → AbsState → Result Effect Rule
check_convert insn dst src s = do
  _ ← check_writable dst
  _ ← check_number rule.PointerArithmetic (value_in s src.number)
  Ok (assignment_effect dst (abstract_result insn (Known 0) (value_in s src.number)) s)

-- arithmetic on the number in dst alone
abbrev pub check_unary : Insn → Reg → AbsState → Result Effect Rule
check_unary insn dst s = do
  _ ← check_writable dst
  _ ← check_number rule.PointerArithmetic (value_in s dst.number)
  Ok (assignment_effect dst (abstract_result insn (value_in s dst.number) (Known 0)) s)

-- arithmetic on dst and a second operand
abbrev pub check_binary : Option Direction → Insn → Reg → Operand → AbsState → Result Effect Rule
check_binary direction insn dst operand s = do
  _ ← check_writable dst
  _ ← check_readable (value_in s dst.number)
  _ ← check_readable (operand_value operand s)
  v ← check_arithmetic direction insn (value_in s dst.number) (operand_value operand s)
  Ok (assignment_effect dst v s)

-- a load of the ring with this number
abbrev pub check_ring_load : Limits → Reg → ℕ → AbsState → Result Effect Rule
check_ring_load limits dst ring s = do
  _ ← check_writable dst
  _ ← refused_if (nat_le limits.rings ring) rule.HelperArgument
  Ok (assignment_effect dst (Ring ring) s)

-- a load of `len` bytes: of a whole place of the stack, or of data
abbrev pub check_load : Limits → Reg → Reg → ℤ → ℕ → AbsState → Result Effect Rule
check_load limits dst base offset len s = do
  _ ← check_writable dst
  _ ← check_tested (value_in s base.number)
  _ ← check_inside limits s.held (value_in s base.number) offset len
  v ← check_loaded (byte_behind (value_in s base.number) offset) len (known_in s.places)
  Ok (assignment_effect dst v s)

-- a store of `len` bytes of a value: of a number, or of a pointer to a whole place of the stack
abbrev pub check_store : Limits → Reg → ℤ → ℕ → Abs → AbsState → Result Effect Rule
check_store limits base offset len v s = do
  _ ← check_tested (value_in s base.number)
  _ ← check_not_context (value_in s base.number)
  _ ← check_inside limits s.held (value_in s base.number) offset len
  places ← check_stored (byte_behind (value_in s base.number) offset) len v s.places
  Ok (effect_on_both (record s { places = places }))

-- the exit of the program
abbrev pub check_exit : AbsState → Result Effect Rule
check_exit s = do
  _ ← refused_if (not (is_empty s.held)) rule.ReferenceLeft
  _ ← check_number rule.ResultNotNumber (value_in s 0)
  Ok (effect_on_both s)

-- the abstract step of each instruction: its checks in order, and its effect
unfoldable pub abstract_step : Limits → ℕ → Insn → AbsState → Result Effect Rule
abstract_step limits unit (Move width dst (Immediate k)) s = check_assign dst (Known (value_of (Move width dst (Immediate k)) 0 0)) s
abstract_step limits unit (Move W64 dst (Register src)) s = check_copy dst src s
abstract_step limits unit (Move W32 dst (Register src)) s = check_convert (Move W32 dst (Register src)) dst src s
abstract_step limits unit (MoveExtended32 low dst src) s = check_convert (MoveExtended32 low dst src) dst src s
abstract_step limits unit (MoveExtended64 low dst src) s = check_convert (MoveExtended64 low dst src) dst src s
abstract_step limits unit (Negate width dst) s = check_unary (Negate width dst) dst s
abstract_step limits unit (Reorder order width dst) s = check_unary (Reorder order width dst) dst s
abstract_step limits unit (Division width op sign dst operand) s = check_binary None (Division width op sign dst operand) dst operand s
abstract_step limits unit (Binary width op dst operand) s = check_binary (direction_of width op) (Binary width op dst operand) dst operand s
abstract_step limits unit (LoadNumber dst n) s = check_assign dst (Known n) s
abstract_step limits unit (LoadRing dst ring) s = check_ring_load limits dst ring s
abstract_step limits unit (Load size dst base offset) s = check_load limits dst base offset (byte_count size) s
abstract_step limits unit (LoadSigned size dst base offset) s = check_load limits dst base offset (signed_byte_count size) s
abstract_step limits unit (StoreImmediate size base offset k) s = check_store limits base offset (byte_count size) Number s
abstract_step limits unit (StoreRegister size base offset src) s = check_store limits base offset (byte_count size) (value_in s src.number) s
abstract_step limits unit (Branch width condition dst operand distance) s =
    check_branch (null_test_of width condition operand) (value_in s dst.number) (operand_value operand s) s
abstract_step limits unit (Jump distance) s = Ok (effect_on_both s)
abstract_step limits unit (JumpFar distance) s = Ok (effect_on_both s)
abstract_step limits unit (Call helper) s = check_call limits unit (helper_of helper) s
abstract_step limits unit Exit s = check_exit s
