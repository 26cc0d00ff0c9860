-- The parts of an instruction's assembly: registers, operands, addresses, distances, and the symbols between them (the
-- syntax of LLVM's disassembler).
use Rattle.std.specs.Prelude.{ℕ, ℤ, pos, negsuc, suc, List, ◌++◌, codes}
use Rattle.std.specs.Fmt.{decimal, signed_decimal}
use Rattle.rb_insn.specs.declared.reg.Reg.{Reg}
use Rattle.rb_insn.specs.declared.insn.Width.{Width}
use Rattle.rb_insn.specs.declared.insn.Width.TheVariants.{W32, W64}
use Rattle.rb_insn.specs.declared.insn.Operand.{Operand}
use Rattle.rb_insn.specs.declared.insn.Operand.TheVariants.{Immediate, Register}
use Rattle.rb_insn.specs.declared.insn.BinaryOp.{BinaryOp}
use Rattle.rb_insn.specs.declared.insn.BinaryOp.TheVariants.{Add, Sub, Mul, Or, And, Lsh, Rsh, Xor, Arsh}
use Rattle.rb_insn.specs.declared.insn.DivisionOp.{DivisionOp}
use Rattle.rb_insn.specs.declared.insn.DivisionOp.TheVariants.{Div, Mod}
use Rattle.rb_insn.specs.declared.insn.Signedness.{Signedness}
use Rattle.rb_insn.specs.declared.insn.Signedness.TheVariants.{Unsigned, Signed}
use Rattle.rb_insn.specs.declared.insn.Extend32.{Extend32}
use Rattle.rb_insn.specs.declared.insn.Extend32.TheVariants as extend32
use Rattle.rb_insn.specs.declared.insn.Extend64.{Extend64}
use Rattle.rb_insn.specs.declared.insn.Extend64.TheVariants as extend64
use Rattle.rb_insn.specs.declared.insn.ByteOrder.{ByteOrder}
use Rattle.rb_insn.specs.declared.insn.ByteOrder.TheVariants.{Little, Big, Swap}
use Rattle.rb_insn.specs.declared.insn.SwapWidth.{SwapWidth}
use Rattle.rb_insn.specs.declared.insn.SwapWidth.TheVariants.{B16, B32, B64}
use Rattle.rb_insn.specs.declared.insn.Condition.{Condition}
use Rattle.rb_insn.specs.declared.insn.Condition.TheVariants.{Equal, NotEqual, AnyBit, Above, AtLeast, Below, AtMost, SignedAbove, SignedAtLeast, SignedBelow, SignedAtMost}
use Rattle.rb_insn.specs.declared.insn.Size.{Size}
use Rattle.rb_insn.specs.declared.insn.Size.TheVariants as sizes
use Rattle.rb_insn.specs.declared.insn.SignedSize.{SignedSize}
use Rattle.rb_insn.specs.declared.insn.SignedSize.TheVariants as signed_sizes

-- ---- registers, operands, addresses, distances

-- `r0` to `r10` for all 64 bits, `w0` to `w10` for the low 32
abbrev pub register_text : Width → Reg → List ℕ
register_text W64 reg = codes "r" ++ decimal reg.number
register_text W32 reg = codes "w" ++ decimal reg.number

-- a register at the instruction's width, or the immediate
abbrev pub operand_text : Width → Operand → List ℕ
operand_text width (Immediate value) = signed_decimal value
operand_text width (Register src) = register_text width src

-- an address in memory: `r1 + 8`, `r10 - 8`
abbrev pub place_text : Reg → ℤ → List ℕ
place_text base (pos offset) = register_text W64 base ++ codes " + " ++ decimal offset
place_text base (negsuc below) = register_text W64 base ++ codes " - " ++ decimal (suc below)

-- the bytes of a type at an address: `*(u64 *)(r1 + 8)`
abbrev pub access_text : List ℕ → Reg → ℤ → List ℕ
access_text type base offset = codes "*(" ++ type ++ codes " *)(" ++ place_text base offset ++ codes ")"

-- a ring by its number: `map_by_idx(0)`
abbrev pub ring_text : ℕ → List ℕ
ring_text number = codes "map_by_idx(" ++ decimal number ++ codes ")"

-- the distance of a jump: `+4`, `-3`
abbrev pub distance_text : ℤ → List ℕ
distance_text (pos distance) = codes "+" ++ decimal distance
distance_text (negsuc back) = codes "-" ++ decimal (suc back)

-- ---- symbols

abbrev pub binary_symbol : BinaryOp → List ℕ
binary_symbol Add = codes "+="
binary_symbol Sub = codes "-="
binary_symbol Mul = codes "*="
binary_symbol Or = codes "|="
binary_symbol And = codes "&="
binary_symbol Lsh = codes "<<="
binary_symbol Rsh = codes ">>="
binary_symbol Xor = codes "^="
binary_symbol Arsh = codes "s>>="

abbrev pub division_symbol : Signedness → DivisionOp → List ℕ
division_symbol Unsigned Div = codes "/="
division_symbol Unsigned Mod = codes "%="
division_symbol Signed Div = codes "s/="
division_symbol Signed Mod = codes "s%="

abbrev pub condition_symbol : Condition → List ℕ
condition_symbol Equal = codes "=="
condition_symbol NotEqual = codes "!="
condition_symbol AnyBit = codes "&"
condition_symbol Above = codes ">"
condition_symbol AtLeast = codes ">="
condition_symbol Below = codes "<"
condition_symbol AtMost = codes "<="
condition_symbol SignedAbove = codes "s>"
condition_symbol SignedAtLeast = codes "s>="
condition_symbol SignedBelow = codes "s<"
condition_symbol SignedAtMost = codes "s<="

abbrev pub extend32_type : Extend32 → List ℕ
extend32_type extend32.From8 = codes "s8"
extend32_type extend32.From16 = codes "s16"

abbrev pub extend64_type : Extend64 → List ℕ
extend64_type extend64.From8 = codes "s8"
extend64_type extend64.From16 = codes "s16"
extend64_type extend64.From32 = codes "s32"

abbrev pub byte_order_name : ByteOrder → List ℕ
byte_order_name Little = codes "le"
byte_order_name Big = codes "be"
byte_order_name Swap = codes "bswap"

abbrev pub swap_width_name : SwapWidth → List ℕ
swap_width_name B16 = codes "16"
swap_width_name B32 = codes "32"
swap_width_name B64 = codes "64"

abbrev pub size_type : Size → List ℕ
size_type sizes.Byte = codes "u8"
size_type sizes.Half = codes "u16"
size_type sizes.Word = codes "u32"
size_type sizes.Double = codes "u64"

abbrev pub signed_size_type : SignedSize → List ℕ
signed_size_type signed_sizes.Byte = codes "s8"
signed_size_type signed_sizes.Half = codes "s16"
signed_size_type signed_sizes.Word = codes "s32"
