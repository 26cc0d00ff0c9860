-- The encoding of instructions as bytes, by the tables of RFC 9669, with little-endian numbers (own choice of its two
-- byte orders). Encodings are stated as sums, with one case for each row of the tables.
use Rattle.std.specs.Prelude.{◌≡◌, ℕ, ◌+◌, ◌*◌, ◌/◌, ◌%◌, ◌^◌, ◌<◌, List, ◌∷◌, ◌++◌, length, FitsSigned, ℤ}
use Rattle.std.specs.Int.{w16, w32, cast_unsigned}
use Rattle.std.specs.List.{flat_map, AllByRecursion}
use Rattle.byteorder.specs.Endian.{little_bytes}
use Rattle.rb_insn.specs.declared.insn.Operand.{Operand}
use Rattle.rb_insn.specs.declared.insn.Operand.TheVariants.{Immediate, Register}
use Rattle.rb_insn.specs.declared.insn.Insn.{Insn}
use Rattle.rb_insn.specs.declared.insn.Insn.TheVariants.{Binary, Division, Negate, Move, MoveExtended32, MoveExtended64, Reorder, Jump, JumpFar, Branch, Call, Exit, LoadNumber, LoadRing, Load, LoadSigned, StoreImmediate, StoreRegister}
use Rattle.rb_insn.specs.Opcodes.{ld, ldx, st, stx, alu, jmp, jmp32, alu64, source_k, source_x, operation_opcode, imm_mode, mem_mode, memsx_mode, access_opcode, alu_class, jump_class, binary_code, division_code, neg_code, mov_code, condition_code, ja_code, call_code, exit_code, double_code, size_code, signed_size_code, division_offset, extend32_offset, extend64_offset, swap_bits, reorder_opcode, map_by_index}
use Rattle.rb_insn.specs.Units.{units_taken}

-- ---- units (section 3.1, 3.2)

-- A unit of 8 bytes: the opcode; a byte with the destination register in its low half and the source register in its
-- high half; the offset in 2 bytes; the immediate in 4.
abbrev pub unit : ℕ → ℕ → ℕ → ℕ → ℕ → List ℕ
unit opcode dst src offset imm = opcode ∷ (dst + 16 * src) ∷ (little_bytes 2 offset ++ little_bytes 4 imm)

-- The second unit of a wide instruction: four zero bytes, then the second immediate.
abbrev pub second_unit : ℕ → List ℕ
second_unit next_imm = 0 ∷ 0 ∷ 0 ∷ 0 ∷ little_bytes 4 next_imm

-- signed numbers of 16 and 32 bits, in two's complement
abbrev pub bits16 : ℤ → ℕ
bits16 z = cast_unsigned w16 z

abbrev pub bits32 : ℤ → ℕ
bits32 z = cast_unsigned w32 z

-- ---- the rows

-- The encoding of each instruction.
abbrev pub spelling : Insn → List ℕ
spelling (Binary width op dst (Immediate value)) = unit (operation_opcode (binary_code op) source_k (alu_class width)) dst.number 0 0 (bits32 value)
spelling (Binary width op dst (Register src)) = unit (operation_opcode (binary_code op) source_x (alu_class width)) dst.number src.number 0 0
spelling (Division width op sign dst (Immediate value)) = unit (operation_opcode (division_code op) source_k (alu_class width)) dst.number 0 (division_offset sign) (bits32 value)
spelling (Division width op sign dst (Register src)) = unit (operation_opcode (division_code op) source_x (alu_class width)) dst.number src.number (division_offset sign) 0
spelling (Negate width dst) = unit (operation_opcode neg_code source_k (alu_class width)) dst.number 0 0 0
spelling (Move width dst (Immediate value)) = unit (operation_opcode mov_code source_k (alu_class width)) dst.number 0 0 (bits32 value)
spelling (Move width dst (Register src)) = unit (operation_opcode mov_code source_x (alu_class width)) dst.number src.number 0 0
spelling (MoveExtended32 from dst src) = unit (operation_opcode mov_code source_x alu) dst.number src.number (extend32_offset from) 0
spelling (MoveExtended64 from dst src) = unit (operation_opcode mov_code source_x alu64) dst.number src.number (extend64_offset from) 0
spelling (Reorder order width dst) = unit (reorder_opcode order) dst.number 0 0 (swap_bits width)
spelling (Branch width condition dst (Immediate value) distance) = unit (operation_opcode (condition_code condition) source_k (jump_class width)) dst.number 0 (bits16 distance) (bits32 value)
spelling (Branch width condition dst (Register src) distance) = unit (operation_opcode (condition_code condition) source_x (jump_class width)) dst.number src.number (bits16 distance) 0
spelling (Jump distance) = unit (operation_opcode ja_code source_k jmp) 0 0 (bits16 distance) 0
spelling (JumpFar distance) = unit (operation_opcode ja_code source_k jmp32) 0 0 0 (bits32 distance)
spelling (Call helper) = unit (operation_opcode call_code source_k jmp) 0 0 0 helper
spelling Exit = unit (operation_opcode exit_code source_k jmp) 0 0 0 0
spelling (LoadNumber dst value) = unit (access_opcode imm_mode double_code ld) dst.number 0 0 (value % 2 ^ 32) ++ second_unit (value / 2 ^ 32)
spelling (LoadRing dst ring) = unit (access_opcode imm_mode double_code ld) dst.number map_by_index 0 ring ++ second_unit 0
spelling (Load size dst base offset) = unit (access_opcode mem_mode (size_code size) ldx) dst.number base.number (bits16 offset) 0
spelling (LoadSigned size dst base offset) = unit (access_opcode memsx_mode (signed_size_code size) ldx) dst.number base.number (bits16 offset) 0
spelling (StoreImmediate size base offset value) = unit (access_opcode mem_mode (size_code size) st) base.number 0 (bits16 offset) (bits32 value)
spelling (StoreRegister size base offset src) = unit (access_opcode mem_mode (size_code size) stx) base.number src.number (bits16 offset) 0

-- ---- which instructions have an encoding: all values of the program's types, whose numbers fit their fields

abbrev pub OffsetFits : Insn → Type 0
OffsetFits (Branch width condition dst operand distance) = FitsSigned w16 distance
OffsetFits (Jump distance) = FitsSigned w16 distance
OffsetFits (Load size dst base offset) = FitsSigned w16 offset
OffsetFits (LoadSigned size dst base offset) = FitsSigned w16 offset
OffsetFits (StoreImmediate size base offset value) = FitsSigned w16 offset
OffsetFits (StoreRegister size base offset src) = FitsSigned w16 offset
OffsetFits insn = Unit {0}

abbrev pub OperandFits : Operand → Type 0
OperandFits (Immediate value) = FitsSigned w32 value
OperandFits (Register src) = Unit {0}

abbrev pub ImmFits : Insn → Type 0
ImmFits (Binary width op dst operand) = OperandFits operand
ImmFits (Division width op sign dst operand) = OperandFits operand
ImmFits (Move width dst operand) = OperandFits operand
ImmFits (Branch width condition dst operand distance) = OperandFits operand
ImmFits (JumpFar distance) = FitsSigned w32 distance
ImmFits (Call helper) = helper < 2 ^ 32
ImmFits (LoadNumber dst value) = value < 2 ^ 64
ImmFits (LoadRing dst ring) = ring < 2 ^ 32
ImmFits (StoreImmediate size base offset value) = FitsSigned w32 value
ImmFits insn = Unit {0}

pub record FieldsFit (insn : Insn) : Type 0 where
  pub offset : OffsetFits insn
  pub imm : ImmFits insn

-- The bytes are the encoding of the instruction.
pub record Spells (insn : Insn) (bytes : List ℕ) : Type 0 where
  pub fits : FieldsFit insn
  pub bytes_are : bytes ≡ spelling insn

-- The bytes are the encodings of the instructions, in order.
pub record SpellsAll (insns : List Insn) (bytes : List ℕ) : Type 0 where
  pub fit : AllByRecursion FieldsFit insns
  pub bytes_are : bytes ≡ flat_map spelling insns

-- ---- laws

-- The encoding is prefix-free: if two encodings start the same bytes, they are equal and encode the same instruction.
abbrev pub NoSpellingBeginsAnother : Type 0
NoSpellingBeginsAnother = (a b : Insn) (s t p q : List ℕ) → Spells a s → Spells b t → s ++ p ≡ t ++ q → (a ≡ b) × (s ≡ t)

-- Bytes encode at most one list of instructions.
abbrev pub OneListSpells : Type 0
OneListSpells = (a b : List Insn) (bytes : List ℕ) → SpellsAll a bytes → SpellsAll b bytes → a ≡ b

-- An encoding fills the units that its instruction takes.
abbrev pub SpellingsFillUnits : Type 0
SpellingsFillUnits = (insn : Insn) (bytes : List ℕ) → Spells insn bytes → length bytes ≡ 8 * units_taken insn
