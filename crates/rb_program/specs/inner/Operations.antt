-- The operation of an opcode, as the decoder finds it.
use Rattle.std.specs.Prelude.{ℕ, ◌/◌, ◌%◌, ◌==◌, Option, Some, None, if◌then◌else◌}
use Rattle.std.specs.Option.{option_map}
use Rattle.rb_insn.specs.declared.insn.Width.{Width}
use Rattle.rb_insn.specs.declared.insn.Width.TheVariants.{W32, W64}
use Rattle.rb_insn.specs.declared.insn.BinaryOp.{BinaryOp}
use Rattle.rb_insn.specs.declared.insn.BinaryOp.TheVariants.{Add, Sub, Mul, Or, And, Lsh, Rsh, Xor, Arsh}
use Rattle.rb_insn.specs.declared.insn.DivisionOp.{DivisionOp}
use Rattle.rb_insn.specs.declared.insn.DivisionOp.TheVariants.{Div, Mod}
use Rattle.rb_insn.specs.declared.insn.ByteOrder.TheVariants.{Little, Big, Swap}
use Rattle.rb_insn.specs.declared.insn.Condition.{Condition}
use Rattle.rb_insn.specs.declared.insn.Condition.TheVariants.{Equal, NotEqual, AnyBit, Above, AtLeast, Below, AtMost, SignedAbove, SignedAtLeast, SignedBelow, SignedAtMost}
use Rattle.rb_insn.specs.declared.insn.Size.{Size}
use Rattle.rb_insn.specs.declared.insn.Size.TheVariants as sizes
use Rattle.rb_insn.specs.declared.insn.SignedSize.{SignedSize}
use Rattle.rb_insn.specs.declared.insn.SignedSize.TheVariants as signed_sizes
use Rattle.rb_program.specs.declared.opcode_meaning.SourceOperand.{SourceOperand}
use Rattle.rb_program.specs.declared.opcode_meaning.SourceOperand.TheVariants.{Immediate, Register}
use Rattle.rb_program.specs.declared.opcode_meaning.OpcodeMeaning.{OpcodeMeaning}
use Rattle.rb_program.specs.declared.opcode_meaning.OpcodeMeaning.TheVariants.{Binary, Division, Negate, Move, Reorder, Branch, Jump, JumpFar, Call, Exit, Wide, Load, LoadSigned, StoreImmediate, StoreRegister}

abbrev pub binary_at : ℕ → Option BinaryOp
binary_at code =
    if code == 0 then Some Add
    else if code == 1 then Some Sub
    else if code == 2 then Some Mul
    else if code == 4 then Some Or
    else if code == 5 then Some And
    else if code == 6 then Some Lsh
    else if code == 7 then Some Rsh
    else if code == 10 then Some Xor
    else if code == 12 then Some Arsh
    else None

abbrev pub division_at : ℕ → Option DivisionOp
division_at code =
    if code == 3 then Some Div
    else if code == 9 then Some Mod
    else None

abbrev pub condition_at : ℕ → Option Condition
condition_at code =
    if code == 1 then Some Equal
    else if code == 2 then Some Above
    else if code == 3 then Some AtLeast
    else if code == 4 then Some AnyBit
    else if code == 5 then Some NotEqual
    else if code == 6 then Some SignedAbove
    else if code == 7 then Some SignedAtLeast
    else if code == 10 then Some Below
    else if code == 11 then Some AtMost
    else if code == 12 then Some SignedBelow
    else if code == 13 then Some SignedAtMost
    else None

abbrev pub size_at : ℕ → Size
size_at size =
    if size == 0 then sizes.Word
    else if size == 1 then sizes.Half
    else if size == 2 then sizes.Byte
    else sizes.Double

abbrev pub signed_size_at : ℕ → Option SignedSize
signed_size_at size =
    if size == 0 then Some signed_sizes.Word
    else if size == 1 then Some signed_sizes.Half
    else if size == 2 then Some signed_sizes.Byte
    else None

abbrev unary_at : ℕ → SourceOperand → Width → Option OpcodeMeaning
unary_at code Immediate W32 =
    if code == 8 then Some (Negate W32)
    else if code == 11 then Some (Move W32 Immediate)
    else if code == 13 then Some (Reorder Little)
    else None
unary_at code Register W32 =
    if code == 11 then Some (Move W32 Register)
    else if code == 13 then Some (Reorder Big)
    else None
unary_at code Immediate W64 =
    if code == 8 then Some (Negate W64)
    else if code == 11 then Some (Move W64 Immediate)
    else if code == 13 then Some (Reorder Swap)
    else None
unary_at code Register W64 =
    if code == 11 then Some (Move W64 Register)
    else None

-- the first of two values that is present
abbrev first_present_operation : {A : Type 0} → Option A → Option A → Option A
first_present_operation (Some a) b = Some a
first_present_operation None b = b

abbrev pub arithmetic_at : ℕ → SourceOperand → Width → Option OpcodeMeaning
arithmetic_at code source width =
    first_present_operation (option_map (λ op. Binary width op source) (binary_at code))
    (first_present_operation (option_map (λ op. Division width op source) (division_at code)) (unary_at code source width))

abbrev plain_jump_at : ℕ → SourceOperand → Width → Option OpcodeMeaning
plain_jump_at code Immediate W64 =
    if code == 0 then Some Jump
    else if code == 8 then Some Call
    else if code == 9 then Some Exit
    else None
plain_jump_at code Immediate W32 = if code == 0 then Some JumpFar else None
plain_jump_at code Register width = None

abbrev pub jump_at : ℕ → SourceOperand → Width → Option OpcodeMeaning
jump_at code source width =
    first_present_operation (option_map (λ condition. Branch width condition source) (condition_at code)) (plain_jump_at code source width)

abbrev pub load_at : ℕ → ℕ → Option OpcodeMeaning
load_at mode size =
    if mode == 3 then Some (Load (size_at size))
    else if mode == 4 then option_map LoadSigned (signed_size_at size)
    else None

abbrev pub store_immediate_at : ℕ → ℕ → Option OpcodeMeaning
store_immediate_at mode size = if mode == 3 then Some (StoreImmediate (size_at size)) else None

abbrev pub store_register_at : ℕ → ℕ → Option OpcodeMeaning
store_register_at mode size = if mode == 3 then Some (StoreRegister (size_at size)) else None

abbrev source_at : ℕ → SourceOperand
source_at opcode = if opcode / 8 % 2 == 0 then Immediate else Register

abbrev pub operation_at : ℕ → Option OpcodeMeaning
operation_at opcode =
    if opcode % 8 == 0 then (if opcode == 0x18 then Some Wide else None)
    else if opcode % 8 == 1 then load_at (opcode / 32) (opcode / 8 % 4)
    else if opcode % 8 == 2 then store_immediate_at (opcode / 32) (opcode / 8 % 4)
    else if opcode % 8 == 3 then store_register_at (opcode / 32) (opcode / 8 % 4)
    else if opcode % 8 == 4 then arithmetic_at (opcode / 16) (source_at opcode) W32
    else if opcode % 8 == 5 then jump_at (opcode / 16) (source_at opcode) W64
    else if opcode % 8 == 6 then jump_at (opcode / 16) (source_at opcode) W32
    else arithmetic_at (opcode / 16) (source_at opcode) W64
