-- When a unit has each kind of decode fault. The bytes are those from the unit on.
use Rattle.std.specs.Prelude.{◌≡◌, ◌≢◌, ℕ, ◌<◌, ◌≤◌, Bool, false, ◌==◌, ◌&&◌, ◌||◌, List, [], ◌∷◌, length, slice_index, None, IsSomeAnd, IsSome, IsTrue, ◌⊎◌}
use Rattle.rb_program.specs.declared.fields.Fields.{Fields}
use Rattle.rb_program.specs.declared.fault.DecodeKind.{DecodeKind}
use Rattle.rb_program.specs.declared.fault.DecodeKind.TheVariants.{Length, TooLong, LeftOut, BadOpcode, BadRegister, UnusedField, HalfWide, Memory}
use Rattle.rb_program.specs.UnitFields.{fields_at, next_imm_at}
use Rattle.rb_program.specs.OpcodeTable.{Allowed, register, only, Row, one_of, row_of}

-- packet access (RFC 9669, section 5.5), atomics (5.3), calls by register
abbrev pub left_out_opcodes : List ℕ
left_out_opcodes = 0x20 ∷ 0x28 ∷ 0x30 ∷ 0x40 ∷ 0x48 ∷ 0x50 ∷ 0xc3 ∷ 0xdb ∷ 0x8d ∷ []

-- The instructions that this project does not support: these opcodes; wide instructions that load something other than
-- a number or a map by its index (5.4); program-local calls and calls by BTF number (4.3).
abbrev pub is_left_out : Fields → Bool
is_left_out fields =
    one_of left_out_opcodes fields.opcode
    || ((fields.opcode == 0x18) && one_of (1 ∷ 2 ∷ 3 ∷ 4 ∷ 6 ∷ []) fields.src)
    || ((fields.opcode == 0x85) && one_of (1 ∷ 2 ∷ []) fields.src)

-- a register above 10
abbrev pub IsBadRegister : Allowed → ℕ → Type 0
IsBadRegister register n = 10 < n
IsBadRegister allowed n = ⊥

abbrev pub HasBadRegister : Row → Fields → Type 0
HasBadRegister row fields = IsBadRegister row.dst fields.dst ⊎ IsBadRegister row.src fields.src

-- a number that the row does not allow
abbrev pub IsNotAllowed : Allowed → ℕ → Type 0
IsNotAllowed (only numbers) n = one_of numbers n ≡ false
IsNotAllowed allowed n = ⊥

-- one of the four bytes before the second immediate is not zero, or the row does not allow the second immediate
abbrev pub HasBadSecondUnit : Allowed → List ℕ → Type 0
HasBadSecondUnit next bytes = ((i : ℕ) × (8 ≤ i) × (i < 12) × (slice_index bytes i ≢ 0)) ⊎ IsNotAllowed next (next_imm_at bytes)

-- a field has a number that the row does not allow, in the first unit or in the second, if that is present
abbrev pub HasUnusedField : Row → List ℕ → Type 0
HasUnusedField row bytes =
    let fields = fields_at bytes in
    IsNotAllowed row.dst fields.dst ⊎ IsNotAllowed row.src fields.src ⊎ IsNotAllowed row.offset fields.offset ⊎ IsNotAllowed row.imm fields.imm
    ⊎ ((16 ≤ length bytes) × IsSomeAnd row.next (λ next. HasBadSecondUnit next bytes))

-- the unit at the front has a fault of this kind
abbrev pub HasDecodeFault : DecodeKind → List ℕ → Type 0
HasDecodeFault LeftOut bytes = IsTrue (is_left_out (fields_at bytes))
HasDecodeFault BadOpcode bytes = row_of (fields_at bytes) ≡ None
HasDecodeFault BadRegister bytes = IsSomeAnd (row_of (fields_at bytes)) (λ row. HasBadRegister row (fields_at bytes))
HasDecodeFault UnusedField bytes = IsSomeAnd (row_of (fields_at bytes)) (λ row. HasUnusedField row bytes)
HasDecodeFault HalfWide bytes = IsSomeAnd (row_of (fields_at bytes)) (λ row. IsSome row.next × (length bytes < 16))
HasDecodeFault kind bytes = ⊥

-- the precedence of the kinds
abbrev pub kind_order : DecodeKind → ℕ
kind_order Length = 1
kind_order TooLong = 2
kind_order LeftOut = 3
kind_order BadOpcode = 4
kind_order BadRegister = 5
kind_order UnusedField = 6
kind_order HalfWide = 7
kind_order Memory = 8

-- the unit has a fault of this kind, and none of a kind that precedes it
pub record IsFirstKind (kind : DecodeKind) (bytes : List ℕ) : Type 0 where
  pub stands : HasDecodeFault kind bytes
  pub first : (other : DecodeKind) → kind_order other < kind_order kind → HasDecodeFault other bytes → ⊥
