-- The operation that the decoder finds for an opcode, and the rows of the table: a check of each of the 256 opcodes.
use Rattle.std.proofs.Common.{◌≡◌, ℕ, zero, suc, ◌<◌, inl, inr, Bool, true, false, cond, List, [], ◌∷◌, Option, Some, None, refl, sym, ap, ◌∙◌, arith}
use Rattle.std.specs.Option.{option_map}
use Rattle.std.proofs.lemmas.Bool.{cases_lt}
use Rattle.rb_insn.specs.Opcodes.{ld, ldx, st, stx, jmp, jmp32, source_k, source_x, operation_opcode, imm_mode, mem_mode, memsx_mode, access_opcode, alu_class, jump_class, binary_code, division_code, neg_code, mov_code, condition_code, ja_code, call_code, exit_code, double_code, size_code, signed_size_code, reorder_opcode}
use Rattle.rb_program.specs.declared.opcode_meaning.SourceOperand.{SourceOperand}
use Rattle.rb_program.specs.declared.opcode_meaning.SourceOperand.TheVariants.{Immediate, Register}
use Rattle.rb_program.specs.declared.opcode_meaning.OpcodeMeaning.{OpcodeMeaning}
use Rattle.rb_program.specs.declared.opcode_meaning.OpcodeMeaning.TheVariants.{Binary, Division, Negate, Move, Reorder, Branch, Jump, JumpFar, Call, Exit, Wide, Load, LoadSigned, StoreImmediate, StoreRegister}
use Rattle.rb_program.specs.inner.Operations.{operation_at}
use Rattle.rb_program.specs.declared.fields.Fields.{Fields}
use Rattle.rb_program.specs.OpcodeTable.{Row, opcode_table, one_of, find_row, row_of}

abbrev pub source_bit : SourceOperand → ℕ
source_bit Immediate = source_k
source_bit Register = source_x

abbrev pub opcode_of : OpcodeMeaning → ℕ
opcode_of (Binary width op source) = operation_opcode (binary_code op) (source_bit source) (alu_class width)
opcode_of (Division width op source) = operation_opcode (division_code op) (source_bit source) (alu_class width)
opcode_of (Negate width) = operation_opcode neg_code source_k (alu_class width)
opcode_of (Move width source) = operation_opcode mov_code (source_bit source) (alu_class width)
opcode_of (Reorder order) = reorder_opcode order
opcode_of (Branch width condition source) = operation_opcode (condition_code condition) (source_bit source) (jump_class width)
opcode_of Jump = operation_opcode ja_code source_k jmp
opcode_of JumpFar = operation_opcode ja_code source_k jmp32
opcode_of Call = operation_opcode call_code source_k jmp
opcode_of Exit = operation_opcode exit_code source_k jmp
opcode_of Wide = access_opcode imm_mode double_code ld
opcode_of (Load size) = access_opcode mem_mode (size_code size) ldx
opcode_of (LoadSigned size) = access_opcode memsx_mode (signed_size_code size) ldx
opcode_of (StoreImmediate size) = access_opcode mem_mode (size_code size) st
opcode_of (StoreRegister size) = access_opcode mem_mode (size_code size) stx

-- a row of the list has the opcode
abbrev pub lists : List Row → ℕ → Bool
lists [] opcode = false
lists (row ∷ rows) opcode = cond (one_of row.opcodes opcode) true (lists rows opcode)

-- ---- functions that agree below a number

abbrev values : {A : Type 0} → (ℕ → A) → ℕ → List A
values f zero = []
values f (suc n) = f n ∷ values f n

agree_below : {A : Type 0} (f g : ℕ → A) (n i : ℕ) → values f n ≡ values g n → i < n → f i ≡ g i
agree_below f g zero i e h = absurd (omega arith)
agree_below f g (suc n) i e h =
    elim (cases_lt i n) [
      | inl below ↦ let rest : values f n ≡ values g n = cc in agree_below f g n i rest below
      | inr top ↦
          let at : i ≡ n = omega arith in
          let first : f n ≡ g n = cc in
          ap f at ∙ first ∙ ap g (sym at)
    ]

-- ---- the check

abbrev found : ℕ → Option ℕ
found n = option_map opcode_of (operation_at n)

abbrev listed : ℕ → Option ℕ
listed n = cond (lists opcode_table n) (Some n) None

every_opcode : values found 256 ≡ values listed 256
every_opcode = refl

found-listed : (n : ℕ) → n < 256 → found n ≡ listed n
found-listed n h = agree_below found listed 256 n every_opcode h

from_listed : (op : OpcodeMeaning) (n : ℕ) (b : Bool) → Some (opcode_of op) ≡ cond b (Some n) None → opcode_of op ≡ n
from_listed op n true e = cc
from_listed op n false e = absurd cc

from_unlisted : (n : ℕ) (b : Bool) → None ≡ cond b (Some n) None → b ≡ false
from_unlisted n true e = absurd cc
from_unlisted n false e = refl

-- an operation is found for its own opcode only
pub operation_at-some : (n : ℕ) (op : OpcodeMeaning) → n < 256 → operation_at n ≡ Some op → opcode_of op ≡ n
operation_at-some n op h e = from_listed op n (lists opcode_table n) (ap (option_map opcode_of) (sym e) ∙ found-listed n h)

-- if none is found, no row has the opcode
pub operation_at-none : (n : ℕ) → n < 256 → operation_at n ≡ None → lists opcode_table n ≡ false
operation_at-none n h e = from_unlisted n (lists opcode_table n) (ap (option_map opcode_of) (sym e) ∙ found-listed n h)

-- ---- the row of a unit

skip : (r : Row) (rows : List Row) (f : Fields) → cond (one_of r.opcodes f.opcode) true (lists rows f.opcode) ≡ false
    → (one_of r.opcodes f.opcode ≡ false) × (lists rows f.opcode ≡ false)
skip r rows f h =
    let P : Bool → Type 0 = λ b. cond b true (lists rows f.opcode) ≡ false → (b ≡ false) × (lists rows f.opcode ≡ false) in
    let cases : (b : Bool) → P b = λ b. elim b as P [ true ↦ λ e. absurd cc | false ↦ λ e. (refl, e) ] in
    cases (one_of r.opcodes f.opcode) h

find_row-unlisted : (rows : List Row) (f : Fields) → lists rows f.opcode ≡ false → find_row rows f ≡ None
find_row-unlisted [] f h = refl
find_row-unlisted (r ∷ rows) f h = let parts = skip r rows f h in rw parts.0 (find_row-unlisted rows f parts.1)

pub row_of-unlisted : (f : Fields) → f.opcode < 256 → operation_at f.opcode ≡ None → row_of f ≡ None
row_of-unlisted f h e = find_row-unlisted opcode_table f (operation_at-none f.opcode h e)
