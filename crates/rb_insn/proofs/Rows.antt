-- Decoding the fields of an instruction's encoding returns that instruction: a lemma for each row.
use Rattle.std.proofs.Common.{◌≡◌, ℕ, ◌+◌, ◌*◌, ◌/◌, ◌%◌, ◌^◌, ◌<◌, ℤ, List, ◌++◌, drop, refl, ap, ◌∙◌, arith}
use Rattle.std.specs.Int.{w16, w32, cast_signed}
use Rattle.rb_insn.specs.declared.insn.Width.{Width}
use Rattle.rb_insn.specs.declared.insn.Width.TheVariants.{W32, W64}
use Rattle.rb_insn.specs.declared.insn.BinaryOp.{BinaryOp}
use Rattle.rb_insn.specs.declared.insn.BinaryOp.TheVariants.{Add}
use Rattle.rb_insn.specs.declared.insn.DivisionOp.{DivisionOp}
use Rattle.rb_insn.specs.declared.insn.DivisionOp.TheVariants.{Div, Mod}
use Rattle.rb_insn.specs.declared.insn.Signedness.{Signedness}
use Rattle.rb_insn.specs.declared.insn.Signedness.TheVariants.{Unsigned, Signed}
use Rattle.rb_insn.specs.declared.insn.Extend32.{Extend32}
use Rattle.rb_insn.specs.declared.insn.Extend32.TheVariants as extend32
use Rattle.rb_insn.specs.declared.insn.Extend64.{Extend64}
use Rattle.rb_insn.specs.declared.insn.Extend64.TheVariants as extend64
use Rattle.rb_insn.specs.declared.insn.ByteOrder.{ByteOrder}
use Rattle.rb_insn.specs.declared.insn.ByteOrder.TheVariants.{Little, Big, Swap}
use Rattle.rb_insn.specs.declared.insn.SwapWidth.{SwapWidth}
use Rattle.rb_insn.specs.declared.insn.SwapWidth.TheVariants.{B16, B32, B64}
use Rattle.rb_insn.specs.declared.insn.Condition.{Condition}
use Rattle.rb_insn.specs.declared.insn.Condition.TheVariants.{Equal}
use Rattle.rb_insn.specs.declared.insn.Size.{Size}
use Rattle.rb_insn.specs.declared.insn.Size.TheVariants as sizes
use Rattle.rb_insn.specs.declared.insn.SignedSize.{SignedSize}
use Rattle.rb_insn.specs.declared.insn.SignedSize.TheVariants as signed_sizes
use Rattle.rb_insn.specs.declared.reg.Reg.{Reg}
use Rattle.rb_insn.specs.declared.insn.Operand.TheVariants.{Immediate, Register}
use Rattle.rb_insn.specs.declared.insn.Insn.{Insn}
use Rattle.rb_insn.specs.declared.insn.Insn.TheVariants.{Binary, Division, Negate, Move, MoveExtended32, MoveExtended64, Reorder, Jump, JumpFar, Branch, Call, Exit, LoadNumber, LoadRing, Load, LoadSigned, StoreImmediate, StoreRegister}
use Rattle.rb_insn.specs.Opcodes.{ld, ldx, st, stx, alu, jmp, jmp32, alu64, source_k, source_x, operation_opcode, imm_mode, mem_mode, memsx_mode, access_opcode, alu_class, jump_class, binary_code, division_code, neg_code, mov_code, condition_code, ja_code, call_code, exit_code, double_code, size_code, signed_size_code, division_offset, extend32_offset, extend64_offset, swap_bits, reorder_opcode, map_by_index}
use Rattle.byteorder.specs.Endian.{little_number}
use Rattle.rb_insn.specs.Spelling.{second_unit, bits16, bits32, spelling, FieldsFit}
use Rattle.rb_insn.proofs.Registers.{reg_of, reg_of-number}
use Rattle.rb_insn.proofs.Units.{fields, fields_at, fields_at-unit, next-second_unit, bits16-bound, bits32-bound, bits16-back, bits32-back}
use Rattle.rb_insn.proofs.Reading.{insn_of}

-- ---- rows that the opcode alone determines

binary_k : (w : Width) (op : BinaryOp) (d s o i n : ℕ) → insn_of (fields (operation_opcode (binary_code op) source_k (alu_class w)) d s o i n) ≡ Binary w op (reg_of d) (Immediate (cast_signed w32 i))
binary_k W32 Add d s o i n = refl
binary_k W64 Add d s o i n = refl
binary_k w op d s o i n = refl

binary_x : (w : Width) (op : BinaryOp) (d s o i n : ℕ) → insn_of (fields (operation_opcode (binary_code op) source_x (alu_class w)) d s o i n) ≡ Binary w op (reg_of d) (Register (reg_of s))
binary_x W32 Add d s o i n = refl
binary_x W64 Add d s o i n = refl
binary_x w op d s o i n = refl

division_k : (w : Width) (op : DivisionOp) (sign : Signedness) (d s i n : ℕ) → insn_of (fields (operation_opcode (division_code op) source_k (alu_class w)) d s (division_offset sign) i n) ≡ Division w op sign (reg_of d) (Immediate (cast_signed w32 i))
division_k W32 Div Unsigned d s i n = refl
division_k W32 Mod Unsigned d s i n = refl
division_k W64 Div Unsigned d s i n = refl
division_k W64 Mod Unsigned d s i n = refl
division_k w op sign d s i n = refl

division_x : (w : Width) (op : DivisionOp) (sign : Signedness) (d s i n : ℕ) → insn_of (fields (operation_opcode (division_code op) source_x (alu_class w)) d s (division_offset sign) i n) ≡ Division w op sign (reg_of d) (Register (reg_of s))
division_x W32 Div Unsigned d s i n = refl
division_x W32 Mod Unsigned d s i n = refl
division_x W64 Div Unsigned d s i n = refl
division_x W64 Mod Unsigned d s i n = refl
division_x w op sign d s i n = refl

negate : (w : Width) (d s o i n : ℕ) → insn_of (fields (operation_opcode neg_code source_k (alu_class w)) d s o i n) ≡ Negate w (reg_of d)
negate W32 d s o i n = refl
negate W64 d s o i n = refl

move_k : (w : Width) (d s o i n : ℕ) → insn_of (fields (operation_opcode mov_code source_k (alu_class w)) d s o i n) ≡ Move w (reg_of d) (Immediate (cast_signed w32 i))
move_k W32 d s o i n = refl
move_k W64 d s o i n = refl

move_x : (w : Width) (d s i n : ℕ) → insn_of (fields (operation_opcode mov_code source_x (alu_class w)) d s 0 i n) ≡ Move w (reg_of d) (Register (reg_of s))
move_x W32 d s i n = refl
move_x W64 d s i n = refl

extended32 : (from : Extend32) (d s i n : ℕ) → insn_of (fields (operation_opcode mov_code source_x alu) d s (extend32_offset from) i n) ≡ MoveExtended32 from (reg_of d) (reg_of s)
extended32 extend32.From8 d s i n = refl
extended32 extend32.From16 d s i n = refl

extended64 : (from : Extend64) (d s i n : ℕ) → insn_of (fields (operation_opcode mov_code source_x alu64) d s (extend64_offset from) i n) ≡ MoveExtended64 from (reg_of d) (reg_of s)
extended64 extend64.From8 d s i n = refl
extended64 extend64.From16 d s i n = refl
extended64 extend64.From32 d s i n = refl

reordered : (order : ByteOrder) (width : SwapWidth) (d s o n : ℕ) → insn_of (fields (reorder_opcode order) d s o (swap_bits width) n) ≡ Reorder order width (reg_of d)
reordered Little B16 d s o n = refl
reordered Big B16 d s o n = refl
reordered Swap B16 d s o n = refl
reordered order width d s o n = refl

branch_k : (w : Width) (c : Condition) (d s o i n : ℕ) → insn_of (fields (operation_opcode (condition_code c) source_k (jump_class w)) d s o i n) ≡ Branch w c (reg_of d) (Immediate (cast_signed w32 i)) (cast_signed w16 o)
branch_k W32 Equal d s o i n = refl
branch_k W64 Equal d s o i n = refl
branch_k w c d s o i n = refl

branch_x : (w : Width) (c : Condition) (d s o i n : ℕ) → insn_of (fields (operation_opcode (condition_code c) source_x (jump_class w)) d s o i n) ≡ Branch w c (reg_of d) (Register (reg_of s)) (cast_signed w16 o)
branch_x W32 Equal d s o i n = refl
branch_x W64 Equal d s o i n = refl
branch_x w c d s o i n = refl

load : (size : Size) (d s o i n : ℕ) → insn_of (fields (access_opcode mem_mode (size_code size) ldx) d s o i n) ≡ Load size (reg_of d) (reg_of s) (cast_signed w16 o)
load sizes.Byte d s o i n = refl
load size d s o i n = refl

load_signed : (size : SignedSize) (d s o i n : ℕ) → insn_of (fields (access_opcode memsx_mode (signed_size_code size) ldx) d s o i n) ≡ LoadSigned size (reg_of d) (reg_of s) (cast_signed w16 o)
load_signed signed_sizes.Byte d s o i n = refl
load_signed size d s o i n = refl

store_immediate : (size : Size) (d s o i n : ℕ) → insn_of (fields (access_opcode mem_mode (size_code size) st) d s o i n) ≡ StoreImmediate size (reg_of d) (cast_signed w16 o) (cast_signed w32 i)
store_immediate sizes.Byte d s o i n = refl
store_immediate size d s o i n = refl

store_register : (size : Size) (d s o i n : ℕ) → insn_of (fields (access_opcode mem_mode (size_code size) stx) d s o i n) ≡ StoreRegister size (reg_of d) (cast_signed w16 o) (reg_of s)
store_register sizes.Byte d s o i n = refl
store_register size d s o i n = refl

number : (d o i n : ℕ) → insn_of (fields (access_opcode imm_mode double_code ld) d 0 o i n) ≡ LoadNumber (reg_of d) (i + 2 ^ 32 * n)
number d o i n = refl

ring : (d o i n : ℕ) → insn_of (fields (access_opcode imm_mode double_code ld) d map_by_index o i n) ≡ LoadRing (reg_of d) i
ring d o i n = refl

-- ---- decoding an encoding

abbrev pub read : List ℕ → Insn
read bytes = insn_of (fields_at bytes)

-- register numbers fit their field
dst16 : (r : Reg) → r.number < 16
dst16 r = let h = r.bounded in omega arith

division_offset-bound : (sign : Signedness) → division_offset sign < 2 ^ 16
division_offset-bound Unsigned = omega arith
division_offset-bound Signed = omega arith

extend32_offset-bound : (from : Extend32) → extend32_offset from < 2 ^ 16
extend32_offset-bound extend32.From8 = omega arith
extend32_offset-bound extend32.From16 = omega arith

extend64_offset-bound : (from : Extend64) → extend64_offset from < 2 ^ 16
extend64_offset-bound extend64.From8 = omega arith
extend64_offset-bound extend64.From16 = omega arith
extend64_offset-bound extend64.From32 = omega arith

swap_bits-bound : (width : SwapWidth) → swap_bits width < 2 ^ 32
swap_bits-bound B16 = omega arith
swap_bits-bound B32 = omega arith
swap_bits-bound B64 = omega arith

-- the next immediate, read after a unit
abbrev after : List ℕ → ℕ
after p = little_number 4 (drop 4 p)

zero16 : 0 < 2 ^ 16
zero16 = omega arith

zero32 : 0 < 2 ^ 32
zero32 = omega arith

pub read-spelling : (a : Insn) (p : List ℕ) → FieldsFit a → read (spelling a ++ p) ≡ a
read-spelling (Binary w op dst (Immediate v)) p fits =
    ap insn_of (fields_at-unit (operation_opcode (binary_code op) source_k (alu_class w)) dst.number 0 0 (bits32 v) p (dst16 dst) zero16 (bits32-bound v fits.imm))
    ∙ binary_k w op dst.number 0 0 (bits32 v) (after p)
    ∙ ap (λ (r : Reg). Binary w op r (Immediate (cast_signed w32 (bits32 v)))) (reg_of-number dst)
    ∙ ap (λ (z : ℤ). Binary w op dst (Immediate z)) (bits32-back v fits.imm)
read-spelling (Binary w op dst (Register src)) p fits =
    ap insn_of (fields_at-unit (operation_opcode (binary_code op) source_x (alu_class w)) dst.number src.number 0 0 p (dst16 dst) zero16 zero32)
    ∙ binary_x w op dst.number src.number 0 0 (after p)
    ∙ ap (λ (r : Reg). Binary w op r (Register (reg_of src.number))) (reg_of-number dst)
    ∙ ap (λ (r : Reg). Binary w op dst (Register r)) (reg_of-number src)
read-spelling (Division w op sign dst (Immediate v)) p fits =
    ap insn_of (fields_at-unit (operation_opcode (division_code op) source_k (alu_class w)) dst.number 0 (division_offset sign) (bits32 v) p (dst16 dst) (division_offset-bound sign) (bits32-bound v fits.imm))
    ∙ division_k w op sign dst.number 0 (bits32 v) (after p)
    ∙ ap (λ (r : Reg). Division w op sign r (Immediate (cast_signed w32 (bits32 v)))) (reg_of-number dst)
    ∙ ap (λ (z : ℤ). Division w op sign dst (Immediate z)) (bits32-back v fits.imm)
read-spelling (Division w op sign dst (Register src)) p fits =
    ap insn_of (fields_at-unit (operation_opcode (division_code op) source_x (alu_class w)) dst.number src.number (division_offset sign) 0 p (dst16 dst) (division_offset-bound sign) zero32)
    ∙ division_x w op sign dst.number src.number 0 (after p)
    ∙ ap (λ (r : Reg). Division w op sign r (Register (reg_of src.number))) (reg_of-number dst)
    ∙ ap (λ (r : Reg). Division w op sign dst (Register r)) (reg_of-number src)
read-spelling (Negate w dst) p fits =
    ap insn_of (fields_at-unit (operation_opcode neg_code source_k (alu_class w)) dst.number 0 0 0 p (dst16 dst) zero16 zero32)
    ∙ negate w dst.number 0 0 0 (after p)
    ∙ ap (Negate w) (reg_of-number dst)
read-spelling (Move w dst (Immediate v)) p fits =
    ap insn_of (fields_at-unit (operation_opcode mov_code source_k (alu_class w)) dst.number 0 0 (bits32 v) p (dst16 dst) zero16 (bits32-bound v fits.imm))
    ∙ move_k w dst.number 0 0 (bits32 v) (after p)
    ∙ ap (λ (r : Reg). Move w r (Immediate (cast_signed w32 (bits32 v)))) (reg_of-number dst)
    ∙ ap (λ (z : ℤ). Move w dst (Immediate z)) (bits32-back v fits.imm)
read-spelling (Move w dst (Register src)) p fits =
    ap insn_of (fields_at-unit (operation_opcode mov_code source_x (alu_class w)) dst.number src.number 0 0 p (dst16 dst) zero16 zero32)
    ∙ move_x w dst.number src.number 0 (after p)
    ∙ ap (λ (r : Reg). Move w r (Register (reg_of src.number))) (reg_of-number dst)
    ∙ ap (λ (r : Reg). Move w dst (Register r)) (reg_of-number src)
read-spelling (MoveExtended32 from dst src) p fits =
    ap insn_of (fields_at-unit (operation_opcode mov_code source_x alu) dst.number src.number (extend32_offset from) 0 p (dst16 dst) (extend32_offset-bound from) zero32)
    ∙ extended32 from dst.number src.number 0 (after p)
    ∙ ap (λ (r : Reg). MoveExtended32 from r (reg_of src.number)) (reg_of-number dst)
    ∙ ap (MoveExtended32 from dst) (reg_of-number src)
read-spelling (MoveExtended64 from dst src) p fits =
    ap insn_of (fields_at-unit (operation_opcode mov_code source_x alu64) dst.number src.number (extend64_offset from) 0 p (dst16 dst) (extend64_offset-bound from) zero32)
    ∙ extended64 from dst.number src.number 0 (after p)
    ∙ ap (λ (r : Reg). MoveExtended64 from r (reg_of src.number)) (reg_of-number dst)
    ∙ ap (MoveExtended64 from dst) (reg_of-number src)
read-spelling (Reorder order width dst) p fits =
    ap insn_of (fields_at-unit (reorder_opcode order) dst.number 0 0 (swap_bits width) p (dst16 dst) zero16 (swap_bits-bound width))
    ∙ reordered order width dst.number 0 0 (after p)
    ∙ ap (Reorder order width) (reg_of-number dst)
read-spelling (Branch w c dst (Immediate v) distance) p fits =
    ap insn_of (fields_at-unit (operation_opcode (condition_code c) source_k (jump_class w)) dst.number 0 (bits16 distance) (bits32 v) p (dst16 dst) (bits16-bound distance fits.offset) (bits32-bound v fits.imm))
    ∙ branch_k w c dst.number 0 (bits16 distance) (bits32 v) (after p)
    ∙ ap (λ (r : Reg). Branch w c r (Immediate (cast_signed w32 (bits32 v))) (cast_signed w16 (bits16 distance))) (reg_of-number dst)
    ∙ ap (λ (z : ℤ). Branch w c dst (Immediate z) (cast_signed w16 (bits16 distance))) (bits32-back v fits.imm)
    ∙ ap (Branch w c dst (Immediate v)) (bits16-back distance fits.offset)
read-spelling (Branch w c dst (Register src) distance) p fits =
    ap insn_of (fields_at-unit (operation_opcode (condition_code c) source_x (jump_class w)) dst.number src.number (bits16 distance) 0 p (dst16 dst) (bits16-bound distance fits.offset) zero32)
    ∙ branch_x w c dst.number src.number (bits16 distance) 0 (after p)
    ∙ ap (λ (r : Reg). Branch w c r (Register (reg_of src.number)) (cast_signed w16 (bits16 distance))) (reg_of-number dst)
    ∙ ap (λ (r : Reg). Branch w c dst (Register r) (cast_signed w16 (bits16 distance))) (reg_of-number src)
    ∙ ap (Branch w c dst (Register src)) (bits16-back distance fits.offset)
read-spelling (Jump distance) p fits =
    ap insn_of (fields_at-unit (operation_opcode ja_code source_k jmp) 0 0 (bits16 distance) 0 p (omega arith) (bits16-bound distance fits.offset) zero32)
    ∙ ap Jump (bits16-back distance fits.offset)
read-spelling (JumpFar distance) p fits =
    ap insn_of (fields_at-unit (operation_opcode ja_code source_k jmp32) 0 0 0 (bits32 distance) p (omega arith) zero16 (bits32-bound distance fits.imm))
    ∙ ap JumpFar (bits32-back distance fits.imm)
read-spelling (Call helper) p fits = ap insn_of (fields_at-unit (operation_opcode call_code source_k jmp) 0 0 0 helper p (omega arith) zero16 fits.imm)
read-spelling Exit p fits = ap insn_of (fields_at-unit (operation_opcode exit_code source_k jmp) 0 0 0 0 p (omega arith) zero16 zero32)
read-spelling (LoadNumber dst value) p fits =
    let fit : value < 2 ^ 64 = fits.imm in
    let low : value % 2 ^ 32 < 2 ^ 32 = omega arith in
    let high : value / 2 ^ 32 < 2 ^ 32 = omega arith in
    ap insn_of (fields_at-unit (access_opcode imm_mode double_code ld) dst.number 0 0 (value % 2 ^ 32) (second_unit (value / 2 ^ 32) ++ p) (dst16 dst) zero16 low)
    ∙ number dst.number 0 (value % 2 ^ 32) (after (second_unit (value / 2 ^ 32) ++ p))
    ∙ ap (λ (r : Reg). LoadNumber r (value % 2 ^ 32 + 2 ^ 32 * after (second_unit (value / 2 ^ 32) ++ p))) (reg_of-number dst)
    ∙ ap (λ (n : ℕ). LoadNumber dst (value % 2 ^ 32 + 2 ^ 32 * n)) (next-second_unit (value / 2 ^ 32) p high)
    ∙ ap (LoadNumber dst) (omega arith)
read-spelling (LoadRing dst index) p fits =
    ap insn_of (fields_at-unit (access_opcode imm_mode double_code ld) dst.number map_by_index 0 index (second_unit 0 ++ p) (dst16 dst) zero16 fits.imm)
    ∙ ring dst.number 0 index (after (second_unit 0 ++ p))
    ∙ ap (λ (r : Reg). LoadRing r index) (reg_of-number dst)
read-spelling (Load size dst base offset) p fits =
    ap insn_of (fields_at-unit (access_opcode mem_mode (size_code size) ldx) dst.number base.number (bits16 offset) 0 p (dst16 dst) (bits16-bound offset fits.offset) zero32)
    ∙ load size dst.number base.number (bits16 offset) 0 (after p)
    ∙ ap (λ (r : Reg). Load size r (reg_of base.number) (cast_signed w16 (bits16 offset))) (reg_of-number dst)
    ∙ ap (λ (r : Reg). Load size dst r (cast_signed w16 (bits16 offset))) (reg_of-number base)
    ∙ ap (Load size dst base) (bits16-back offset fits.offset)
read-spelling (LoadSigned size dst base offset) p fits =
    ap insn_of (fields_at-unit (access_opcode memsx_mode (signed_size_code size) ldx) dst.number base.number (bits16 offset) 0 p (dst16 dst) (bits16-bound offset fits.offset) zero32)
    ∙ load_signed size dst.number base.number (bits16 offset) 0 (after p)
    ∙ ap (λ (r : Reg). LoadSigned size r (reg_of base.number) (cast_signed w16 (bits16 offset))) (reg_of-number dst)
    ∙ ap (λ (r : Reg). LoadSigned size dst r (cast_signed w16 (bits16 offset))) (reg_of-number base)
    ∙ ap (LoadSigned size dst base) (bits16-back offset fits.offset)
read-spelling (StoreImmediate size base offset value) p fits =
    ap insn_of (fields_at-unit (access_opcode mem_mode (size_code size) st) base.number 0 (bits16 offset) (bits32 value) p (dst16 base) (bits16-bound offset fits.offset) (bits32-bound value fits.imm))
    ∙ store_immediate size base.number 0 (bits16 offset) (bits32 value) (after p)
    ∙ ap (λ (r : Reg). StoreImmediate size r (cast_signed w16 (bits16 offset)) (cast_signed w32 (bits32 value))) (reg_of-number base)
    ∙ ap (λ (z : ℤ). StoreImmediate size base z (cast_signed w32 (bits32 value))) (bits16-back offset fits.offset)
    ∙ ap (StoreImmediate size base offset) (bits32-back value fits.imm)
read-spelling (StoreRegister size base offset src) p fits =
    ap insn_of (fields_at-unit (access_opcode mem_mode (size_code size) stx) base.number src.number (bits16 offset) 0 p (dst16 base) (bits16-bound offset fits.offset) zero32)
    ∙ store_register size base.number src.number (bits16 offset) 0 (after p)
    ∙ ap (λ (r : Reg). StoreRegister size r (cast_signed w16 (bits16 offset)) (reg_of src.number)) (reg_of-number base)
    ∙ ap (λ (r : Reg). StoreRegister size base (cast_signed w16 (bits16 offset)) r) (reg_of-number src)
    ∙ ap (λ (z : ℤ). StoreRegister size base z src) (bits16-back offset fits.offset)
