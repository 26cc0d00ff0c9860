-- Opcodes, and the other fields that select an operation, from the tables of RFC 9669, sections 3 to 5.
use Rattle.std.specs.Prelude.{ℕ, ◌+◌, ◌*◌}
use Rattle.rb_insn.specs.declared.insn.Width.{Width}
use Rattle.rb_insn.specs.declared.insn.Width.TheVariants.{W32, W64}
use Rattle.rb_insn.specs.declared.insn.BinaryOp.{BinaryOp}
use Rattle.rb_insn.specs.declared.insn.BinaryOp.TheVariants.{Add, Sub, Mul, Or, And, Lsh, Rsh, Xor, Arsh}
use Rattle.rb_insn.specs.declared.insn.DivisionOp.{DivisionOp}
use Rattle.rb_insn.specs.declared.insn.DivisionOp.TheVariants.{Div, Mod}
use Rattle.rb_insn.specs.declared.insn.Signedness.{Signedness}
use Rattle.rb_insn.specs.declared.insn.Signedness.TheVariants.{Unsigned, Signed}
use Rattle.rb_insn.specs.declared.insn.Extend32.{Extend32}
use Rattle.rb_insn.specs.declared.insn.Extend32.TheVariants as extend32
use Rattle.rb_insn.specs.declared.insn.Extend64.{Extend64}
use Rattle.rb_insn.specs.declared.insn.Extend64.TheVariants as extend64
use Rattle.rb_insn.specs.declared.insn.ByteOrder.{ByteOrder}
use Rattle.rb_insn.specs.declared.insn.ByteOrder.TheVariants.{Little, Big, Swap}
use Rattle.rb_insn.specs.declared.insn.SwapWidth.{SwapWidth}
use Rattle.rb_insn.specs.declared.insn.SwapWidth.TheVariants.{B16, B32, B64}
use Rattle.rb_insn.specs.declared.insn.Condition.{Condition}
use Rattle.rb_insn.specs.declared.insn.Condition.TheVariants.{Equal, NotEqual, AnyBit, Above, AtLeast, Below, AtMost, SignedAbove, SignedAtLeast, SignedBelow, SignedAtMost}
use Rattle.rb_insn.specs.declared.insn.Size.{Size}
use Rattle.rb_insn.specs.declared.insn.Size.TheVariants as sizes
use Rattle.rb_insn.specs.declared.insn.SignedSize.{SignedSize}
use Rattle.rb_insn.specs.declared.insn.SignedSize.TheVariants as signed_sizes

-- the instruction classes, in the low three bits
abbrev pub ld : ℕ
ld = 0

abbrev pub ldx : ℕ
ldx = 1

abbrev pub st : ℕ
st = 2

abbrev pub stx : ℕ
stx = 3

abbrev pub alu : ℕ
alu = 4

abbrev pub jmp : ℕ
jmp = 5

abbrev pub jmp32 : ℕ
jmp32 = 6

abbrev pub alu64 : ℕ
alu64 = 7

-- where the second operand is: K for the immediate, X for the source register
abbrev pub source_k : ℕ
source_k = 0

abbrev pub source_x : ℕ
source_x = 8

-- the opcode of an arithmetic instruction or a jump
abbrev pub operation_opcode : ℕ → ℕ → ℕ → ℕ
operation_opcode code source class = 16 * code + source + class

-- the modes of loads and stores
abbrev pub imm_mode : ℕ
imm_mode = 0

abbrev pub mem_mode : ℕ
mem_mode = 3

abbrev pub memsx_mode : ℕ
memsx_mode = 4

-- the opcode of a load or a store
abbrev pub access_opcode : ℕ → ℕ → ℕ → ℕ
access_opcode mode size class = 32 * mode + 8 * size + class

abbrev pub alu_class : Width → ℕ
alu_class W32 = alu
alu_class W64 = alu64

abbrev pub jump_class : Width → ℕ
jump_class W32 = jmp32
jump_class W64 = jmp

abbrev pub binary_code : BinaryOp → ℕ
binary_code Add = 0
binary_code Sub = 1
binary_code Mul = 2
binary_code Or = 4
binary_code And = 5
binary_code Lsh = 6
binary_code Rsh = 7
binary_code Xor = 10
binary_code Arsh = 12

abbrev pub division_code : DivisionOp → ℕ
division_code Div = 3
division_code Mod = 9

abbrev pub neg_code : ℕ
neg_code = 8

abbrev pub mov_code : ℕ
mov_code = 11

abbrev pub end_code : ℕ
end_code = 13

abbrev pub condition_code : Condition → ℕ
condition_code Equal = 1
condition_code Above = 2
condition_code AtLeast = 3
condition_code AnyBit = 4
condition_code NotEqual = 5
condition_code SignedAbove = 6
condition_code SignedAtLeast = 7
condition_code Below = 10
condition_code AtMost = 11
condition_code SignedBelow = 12
condition_code SignedAtMost = 13

abbrev pub ja_code : ℕ
ja_code = 0

abbrev pub call_code : ℕ
call_code = 8

abbrev pub exit_code : ℕ
exit_code = 9

abbrev pub word_code : ℕ
word_code = 0

abbrev pub half_code : ℕ
half_code = 1

abbrev pub byte_code : ℕ
byte_code = 2

abbrev pub double_code : ℕ
double_code = 3

abbrev pub size_code : Size → ℕ
size_code sizes.Byte = byte_code
size_code sizes.Half = half_code
size_code sizes.Word = word_code
size_code sizes.Double = double_code

abbrev pub signed_size_code : SignedSize → ℕ
signed_size_code signed_sizes.Byte = byte_code
signed_size_code signed_sizes.Half = half_code
signed_size_code signed_sizes.Word = word_code

-- ---- other fields that select the operation (sections 4.1 and 4.2)

-- signed division has offset 1
abbrev pub division_offset : Signedness → ℕ
division_offset Unsigned = 0
division_offset Signed = 1

-- the offset of a sign-extending move is the number of bits that it reads
abbrev pub extend32_offset : Extend32 → ℕ
extend32_offset extend32.From8 = 8
extend32_offset extend32.From16 = 16

abbrev pub extend64_offset : Extend64 → ℕ
extend64_offset extend64.From8 = 8
extend64_offset extend64.From16 = 16
extend64_offset extend64.From32 = 32

-- the immediate of a byte swap is the number of bits that it works on
abbrev pub swap_bits : SwapWidth → ℕ
swap_bits B16 = 16
swap_bits B32 = 32
swap_bits B64 = 64

abbrev pub reorder_opcode : ByteOrder → ℕ
reorder_opcode Little = operation_opcode end_code source_k alu
reorder_opcode Big = operation_opcode end_code source_x alu
reorder_opcode Swap = operation_opcode end_code source_k alu64

-- the source register of a wide instruction that loads a map by its index (section 5.4)
abbrev pub map_by_index : ℕ
map_by_index = 5
