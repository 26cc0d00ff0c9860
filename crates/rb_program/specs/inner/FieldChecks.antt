-- The decoder's checks on the fields of an operation, and the instruction that it builds from them.
use Rattle.std.specs.Prelude.{ℕ, ◌+◌, ◌*◌, ◌^◌, Bool, true, false, ◌==◌, ◌&&◌, nat_le, [], ◌∷◌, min, if◌then◌else◌}
use Rattle.std.specs.Int.{w16, w32, cast_signed}
use Rattle.std.proofs.Math.Nat.{min-le_right}
use Rattle.rb_insn.specs.declared.reg.Reg.{Reg}
use Rattle.rb_insn.specs.declared.insn.Width.TheVariants.{W32, W64}
use Rattle.rb_insn.specs.declared.insn.Signedness.{Signedness}
use Rattle.rb_insn.specs.declared.insn.Signedness.TheVariants.{Unsigned, Signed}
use Rattle.rb_insn.specs.declared.insn.Extend32.TheVariants as extend32
use Rattle.rb_insn.specs.declared.insn.Extend64.TheVariants as extend64
use Rattle.rb_insn.specs.declared.insn.SwapWidth.{SwapWidth}
use Rattle.rb_insn.specs.declared.insn.SwapWidth.TheVariants.{B16, B32, B64}
use Rattle.rb_insn.specs.declared.insn.Operand.{Operand}
use Rattle.rb_insn.specs.declared.insn.Operand.TheVariants as operands
use Rattle.rb_insn.specs.declared.insn.Insn.{Insn}
use Rattle.rb_insn.specs.declared.insn.Insn.TheVariants as insns
use Rattle.rb_program.specs.declared.fields.Fields.{Fields}
use Rattle.rb_program.specs.declared.opcode_meaning.SourceOperand.{SourceOperand}
use Rattle.rb_program.specs.declared.opcode_meaning.SourceOperand.TheVariants.{Immediate, Register}
use Rattle.rb_program.specs.declared.opcode_meaning.OpcodeMeaning.{OpcodeMeaning}
use Rattle.rb_program.specs.declared.opcode_meaning.OpcodeMeaning.TheVariants.{Binary, Division, Negate, Move, Reorder, Branch, Jump, JumpFar, Call, Exit, Wide, Load, LoadSigned, StoreImmediate, StoreRegister}
use Rattle.rb_program.specs.OpcodeTable as rows
use Rattle.rb_program.specs.OpcodeTable.{Allowed, register, any, only, named, Row, one_of}

-- the numbers that select a row besides the opcode
abbrev pub is_named_by : OpcodeMeaning → Fields → Bool
is_named_by (Reorder order) fields = one_of (16 ∷ 32 ∷ 64 ∷ []) fields.imm
is_named_by Call fields = one_of (0 ∷ []) fields.src
is_named_by Wide fields = one_of (0 ∷ 5 ∷ []) fields.src
is_named_by op fields = true

-- the row of an operation; the source field selects it if the opcode does not
abbrev pub row_for : OpcodeMeaning → ℕ → Row
row_for (Binary width op Immediate) src = rows.binary_k_row
row_for (Binary width op Register) src = rows.binary_x_row
row_for (Division width op Immediate) src = rows.division_k_row
row_for (Division width op Register) src = rows.division_x_row
row_for (Negate width) src = rows.neg_row
row_for (Move width Immediate) src = rows.mov_k_row
row_for (Move W32 Register) src = rows.mov_x_32_row
row_for (Move W64 Register) src = rows.mov_x_64_row
row_for (Reorder order) src = rows.byte_swap_row
row_for (Branch width condition Immediate) src = rows.conditional_k_row
row_for (Branch width condition Register) src = rows.conditional_x_row
row_for Jump src = rows.ja_row
row_for JumpFar src = rows.ja_far_row
row_for Call src = rows.call_row
row_for Exit src = rows.exit_row
row_for Wide src = if src == 0 then rows.wide_number_row else rows.wide_map_row
row_for (Load size) src = rows.load_row
row_for (LoadSigned size) src = rows.load_signed_row
row_for (StoreImmediate size) src = rows.store_immediate_row
row_for (StoreRegister size) src = rows.store_register_row

abbrev pub is_register : Allowed → Bool
is_register register = true
is_register allowed = false

abbrev pub fits_register : Allowed → ℕ → Bool
fits_register register n = nat_le n 10
fits_register allowed n = true

abbrev pub fits_unused : Allowed → ℕ → Bool
fits_unused (only numbers) n = one_of numbers n
fits_unused allowed n = true

abbrev pub registers_fit : Row → Fields → Bool
registers_fit row fields = fits_register row.dst fields.dst && fits_register row.src fields.src

abbrev pub numbers_fit : Row → Fields → Bool
numbers_fit row fields =
    fits_unused row.dst fields.dst && (fits_unused row.src fields.src && (fits_unused row.offset fields.offset && fits_unused row.imm fields.imm))

-- ---- the instruction

-- the register with a number up to 10
unfoldable pub reg_at : ℕ → Reg
reg_at n = record { number = min n 10; bounded = min-le_right n 10 }

abbrev pub operand_from : SourceOperand → Fields → Operand
operand_from Immediate fields = operands.Immediate (cast_signed w32 fields.imm)
operand_from Register fields = operands.Register (reg_at fields.src)

abbrev pub sign_from : ℕ → Signedness
sign_from offset = if offset == 0 then Unsigned else Signed

abbrev pub move32_from : Fields → Insn
move32_from fields =
    if fields.offset == 8 then insns.MoveExtended32 extend32.From8 (reg_at fields.dst) (reg_at fields.src)
    else if fields.offset == 16 then insns.MoveExtended32 extend32.From16 (reg_at fields.dst) (reg_at fields.src)
    else insns.Move W32 (reg_at fields.dst) (operands.Register (reg_at fields.src))

abbrev pub move64_from : Fields → Insn
move64_from fields =
    if fields.offset == 8 then insns.MoveExtended64 extend64.From8 (reg_at fields.dst) (reg_at fields.src)
    else if fields.offset == 16 then insns.MoveExtended64 extend64.From16 (reg_at fields.dst) (reg_at fields.src)
    else if fields.offset == 32 then insns.MoveExtended64 extend64.From32 (reg_at fields.dst) (reg_at fields.src)
    else insns.Move W64 (reg_at fields.dst) (operands.Register (reg_at fields.src))

abbrev pub swap_width_from : ℕ → SwapWidth
swap_width_from imm = if imm == 16 then B16 else if imm == 32 then B32 else B64

abbrev pub wide_from : Fields → ℕ → Insn
wide_from fields next =
    if fields.src == 0 then insns.LoadNumber (reg_at fields.dst) (2 ^ 32 * next + fields.imm)
    else insns.LoadRing (reg_at fields.dst) fields.imm

abbrev pub insn_from : OpcodeMeaning → Fields → ℕ → Insn
insn_from (Binary width op source) fields next = insns.Binary width op (reg_at fields.dst) (operand_from source fields)
insn_from (Division width op source) fields next = insns.Division width op (sign_from fields.offset) (reg_at fields.dst) (operand_from source fields)
insn_from (Negate width) fields next = insns.Negate width (reg_at fields.dst)
insn_from (Move width Immediate) fields next = insns.Move width (reg_at fields.dst) (operand_from Immediate fields)
insn_from (Move W32 Register) fields next = move32_from fields
insn_from (Move W64 Register) fields next = move64_from fields
insn_from (Reorder order) fields next = insns.Reorder order (swap_width_from fields.imm) (reg_at fields.dst)
insn_from (Branch width condition source) fields next = insns.Branch width condition (reg_at fields.dst) (operand_from source fields) (cast_signed w16 fields.offset)
insn_from Jump fields next = insns.Jump (cast_signed w16 fields.offset)
insn_from JumpFar fields next = insns.JumpFar (cast_signed w32 fields.imm)
insn_from Call fields next = insns.Call fields.imm
insn_from Exit fields next = insns.Exit
insn_from Wide fields next = wide_from fields next
insn_from (Load size) fields next = insns.Load size (reg_at fields.dst) (reg_at fields.src) (cast_signed w16 fields.offset)
insn_from (LoadSigned size) fields next = insns.LoadSigned size (reg_at fields.dst) (reg_at fields.src) (cast_signed w16 fields.offset)
insn_from (StoreImmediate size) fields next = insns.StoreImmediate size (reg_at fields.dst) (cast_signed w16 fields.offset) (cast_signed w32 fields.imm)
insn_from (StoreRegister size) fields next = insns.StoreRegister size (reg_at fields.dst) (cast_signed w16 fields.offset) (reg_at fields.src)

-- ---- the classes of operations

abbrev pub IsAluOperation : OpcodeMeaning → Type 0
IsAluOperation (Binary width op source) = Unit {0}
IsAluOperation (Division width op source) = Unit {0}
IsAluOperation (Negate width) = Unit {0}
IsAluOperation (Move width source) = Unit {0}
IsAluOperation (Reorder order) = Unit {0}
IsAluOperation op = ⊥

abbrev pub IsJumpOperation : OpcodeMeaning → Type 0
IsJumpOperation (Branch width condition source) = Unit {0}
IsJumpOperation Jump = Unit {0}
IsJumpOperation JumpFar = Unit {0}
IsJumpOperation Call = Unit {0}
IsJumpOperation Exit = Unit {0}
IsJumpOperation op = ⊥

abbrev pub IsAccessOperation : OpcodeMeaning → Type 0
IsAccessOperation (Load size) = Unit {0}
IsAccessOperation (LoadSigned size) = Unit {0}
IsAccessOperation (StoreImmediate size) = Unit {0}
IsAccessOperation (StoreRegister size) = Unit {0}
IsAccessOperation op = ⊥
