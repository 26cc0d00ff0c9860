-- The decoder: reads an instruction from the fields of its units. A left inverse of the encoding.
use Rattle.std.proofs.Common.{ℕ, ◌+◌, ◌*◌, ◌^◌, List, [], ◌∷◌, ◌++◌, map, cond, eqb, ℤ}
use Rattle.std.specs.Int.{w16, w32, cast_signed}
use Rattle.std.specs.List.{flat_map}
use Rattle.rb_insn.specs.declared.insn.Width.{Width}
use Rattle.rb_insn.specs.declared.insn.Width.TheVariants.{W32, W64}
use Rattle.rb_insn.specs.declared.insn.BinaryOp.TheVariants.{Add, Sub, Mul, Or, And, Lsh, Rsh, Xor, Arsh}
use Rattle.rb_insn.specs.declared.insn.DivisionOp.TheVariants.{Div, Mod}
use Rattle.rb_insn.specs.declared.insn.Signedness.{Signedness}
use Rattle.rb_insn.specs.declared.insn.Signedness.TheVariants.{Unsigned, Signed}
use Rattle.rb_insn.specs.declared.insn.Extend32.TheVariants as extend32
use Rattle.rb_insn.specs.declared.insn.Extend64.TheVariants as extend64
use Rattle.rb_insn.specs.declared.insn.ByteOrder.TheVariants.{Little, Big, Swap}
use Rattle.rb_insn.specs.declared.insn.SwapWidth.{SwapWidth}
use Rattle.rb_insn.specs.declared.insn.SwapWidth.TheVariants.{B16, B32, B64}
use Rattle.rb_insn.specs.declared.insn.Condition.TheVariants.{Equal, NotEqual, AnyBit, Above, AtLeast, Below, AtMost, SignedAbove, SignedAtLeast, SignedBelow, SignedAtMost}
use Rattle.rb_insn.specs.declared.insn.Size.TheVariants as sizes
use Rattle.rb_insn.specs.declared.insn.SignedSize.TheVariants as signed_sizes
use Rattle.rb_insn.specs.declared.insn.Operand.TheVariants.{Immediate, Register}
use Rattle.rb_insn.specs.declared.insn.Insn.{Insn}
use Rattle.rb_insn.specs.declared.insn.Insn.TheVariants.{Binary, Division, Negate, Move, MoveExtended32, MoveExtended64, Reorder, Jump, JumpFar, Branch, Call, Exit, LoadNumber, LoadRing, Load, LoadSigned, StoreImmediate, StoreRegister}
use Rattle.rb_insn.specs.Opcodes.{ld, ldx, st, stx, alu, jmp, jmp32, alu64, source_k, source_x, operation_opcode, imm_mode, mem_mode, memsx_mode, access_opcode, alu_class, jump_class, binary_code, division_code, neg_code, mov_code, condition_code, ja_code, call_code, exit_code, double_code, size_code, signed_size_code, reorder_opcode}
use Rattle.rb_insn.proofs.Registers.{reg_of}
use Rattle.rb_insn.proofs.Units.{Fields}

-- a function from fields to an instruction, one for each opcode
abbrev pub Maker : Type 0
Maker = Fields → Insn

pub record Row : Type 0 where
  pub opcode : ℕ
  pub make : Maker

abbrev row : ℕ → Maker → Row
row opcode make = record { opcode = opcode; make = make }

abbrev signed16 : ℕ → ℤ
signed16 n = cast_signed w16 n

abbrev signed32 : ℕ → ℤ
signed32 n = cast_signed w32 n

-- ---- what the offset, the immediate or the source field selects

abbrev sign_of : ℕ → Signedness
sign_of offset = cond (eqb offset 0) Unsigned Signed

abbrev moved32 : Fields → Insn
moved32 f = cond (eqb f.offset 0) (Move W32 (reg_of f.dst) (Register (reg_of f.src)))
    (MoveExtended32 (cond (eqb f.offset 8) extend32.From8 extend32.From16) (reg_of f.dst) (reg_of f.src))

abbrev moved64 : Fields → Insn
moved64 f = cond (eqb f.offset 0) (Move W64 (reg_of f.dst) (Register (reg_of f.src)))
    (MoveExtended64 (cond (eqb f.offset 8) extend64.From8 (cond (eqb f.offset 16) extend64.From16 extend64.From32)) (reg_of f.dst) (reg_of f.src))

abbrev swap_of : ℕ → SwapWidth
swap_of imm = cond (eqb imm 16) B16 (cond (eqb imm 32) B32 B64)

abbrev wide : Fields → Insn
wide f = cond (eqb f.src 0) (LoadNumber (reg_of f.dst) (f.imm + 2 ^ 32 * f.next)) (LoadRing (reg_of f.dst) f.imm)

-- ---- the rows

abbrev widths : List Width
widths = W32 ∷ W64 ∷ []

abbrev binary_rows : List Row
binary_rows = flat_map (λ w. flat_map (λ op.
    row (operation_opcode (binary_code op) source_k (alu_class w)) (λ f. Binary w op (reg_of f.dst) (Immediate (signed32 f.imm)))
    ∷ row (operation_opcode (binary_code op) source_x (alu_class w)) (λ f. Binary w op (reg_of f.dst) (Register (reg_of f.src))) ∷ [])
    (Add ∷ Sub ∷ Mul ∷ Or ∷ And ∷ Lsh ∷ Rsh ∷ Xor ∷ Arsh ∷ [])) widths

abbrev division_rows : List Row
division_rows = flat_map (λ w. flat_map (λ op.
    row (operation_opcode (division_code op) source_k (alu_class w)) (λ f. Division w op (sign_of f.offset) (reg_of f.dst) (Immediate (signed32 f.imm)))
    ∷ row (operation_opcode (division_code op) source_x (alu_class w)) (λ f. Division w op (sign_of f.offset) (reg_of f.dst) (Register (reg_of f.src))) ∷ [])
    (Div ∷ Mod ∷ [])) widths

abbrev move_rows : List Row
move_rows =
    flat_map (λ w.
    row (operation_opcode neg_code source_k (alu_class w)) (λ f. Negate w (reg_of f.dst))
    ∷ row (operation_opcode mov_code source_k (alu_class w)) (λ f. Move w (reg_of f.dst) (Immediate (signed32 f.imm))) ∷ []) widths
    ++ row (operation_opcode mov_code source_x alu) moved32 ∷ row (operation_opcode mov_code source_x alu64) moved64 ∷ []
    ++ map (λ order. row (reorder_opcode order) (λ f. Reorder order (swap_of f.imm) (reg_of f.dst))) (Little ∷ Big ∷ Swap ∷ [])

abbrev branch_rows : List Row
branch_rows = flat_map (λ w. flat_map (λ c.
    row (operation_opcode (condition_code c) source_k (jump_class w)) (λ f. Branch w c (reg_of f.dst) (Immediate (signed32 f.imm)) (signed16 f.offset))
    ∷ row (operation_opcode (condition_code c) source_x (jump_class w)) (λ f. Branch w c (reg_of f.dst) (Register (reg_of f.src)) (signed16 f.offset)) ∷ [])
    (Equal ∷ NotEqual ∷ AnyBit ∷ Above ∷ AtLeast ∷ Below ∷ AtMost ∷ SignedAbove ∷ SignedAtLeast ∷ SignedBelow ∷ SignedAtMost ∷ [])) widths

abbrev jump_rows : List Row
jump_rows =
    row (operation_opcode ja_code source_k jmp) (λ f. Jump (signed16 f.offset))
    ∷ row (operation_opcode ja_code source_k jmp32) (λ f. JumpFar (signed32 f.imm))
    ∷ row (operation_opcode call_code source_k jmp) (λ f. Call f.imm)
    ∷ row (operation_opcode exit_code source_k jmp) (λ f. Exit) ∷ []

abbrev memory_rows : List Row
memory_rows =
    row (access_opcode imm_mode double_code ld) wide ∷ []
    ++ flat_map (λ size.
    row (access_opcode mem_mode (size_code size) ldx) (λ f. Load size (reg_of f.dst) (reg_of f.src) (signed16 f.offset))
    ∷ row (access_opcode mem_mode (size_code size) st) (λ f. StoreImmediate size (reg_of f.dst) (signed16 f.offset) (signed32 f.imm))
    ∷ row (access_opcode mem_mode (size_code size) stx) (λ f. StoreRegister size (reg_of f.dst) (signed16 f.offset) (reg_of f.src)) ∷ [])
    (sizes.Byte ∷ sizes.Half ∷ sizes.Word ∷ sizes.Double ∷ [])
    ++ map (λ size. row (access_opcode memsx_mode (signed_size_code size) ldx) (λ f. LoadSigned size (reg_of f.dst) (reg_of f.src) (signed16 f.offset)))
    (signed_sizes.Byte ∷ signed_sizes.Half ∷ signed_sizes.Word ∷ [])

abbrev rows : List Row
rows = binary_rows ++ division_rows ++ move_rows ++ branch_rows ++ jump_rows ++ memory_rows

abbrev maker_in : List Row → ℕ → Maker
maker_in [] opcode = λ f. Exit
maker_in (r ∷ rs) opcode = cond (eqb r.opcode opcode) r.make (maker_in rs opcode)

-- the instruction with these fields
abbrev pub insn_of : Fields → Insn
insn_of f = maker_in rows f.opcode f
