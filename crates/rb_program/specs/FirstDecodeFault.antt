-- The first fault of bytes that are not a program.
use Rattle.std.specs.Prelude.{◌≡◌, ◌≢◌, ℕ, ◌*◌, ◌%◌, ◌<◌, List, [], ◌++◌, length, take, drop, ◌⊎◌}
use Rattle.rb_insn.specs.declared.insn.Insn.{Insn}
use Rattle.rb_insn.specs.Spelling.{Spells, SpellsAll}
use Rattle.rb_program.specs.declared.fault.DecodeKind.{DecodeKind}
use Rattle.rb_program.specs.declared.fault.DecodeKind.TheVariants.{Length, TooLong, Memory}
use Rattle.rb_program.specs.declared.fault.DecodeFault.{DecodeFault}
use Rattle.rb_program.specs.DecodeFaults.{IsFirstKind}
use Rattle.rb_program.specs.Program.{IsProgram}

-- no bytes, or an incomplete last unit
abbrev pub HasBadLength : List ℕ → Type 0
HasBadLength bytes = (bytes ≡ []) ⊎ (length bytes % 8 ≢ 0)

-- more than 4096 units
abbrev pub HasTooManyUnits : List ℕ → Type 0
HasTooManyUnits bytes = 8 * 4096 < length bytes

-- The unit follows the longest prefix of the bytes that consists of whole instructions, and the kind is the first one
-- there.
pub record IsFaultAt (bytes : List ℕ) (unit : ℕ) (kind : DecodeKind) : Type 0 where
  pub within : 8 * unit < length bytes
  pub front : List Insn
  pub spelled : SpellsAll front (take (8 * unit) bytes)
  pub longest : (insn : Insn) (spelling rest : List ℕ) → Spells insn spelling → drop (8 * unit) bytes ≡ spelling ++ rest → ⊥
  pub first : IsFirstKind kind (drop (8 * unit) bytes)

-- The first fault of the bytes: a bad length precedes all others, then too many units, then the fault after the longest
-- prefix of whole instructions. A failed allocation is not a fault of the bytes.
abbrev pub IsFirstFaultAt : List ℕ → ℕ → DecodeKind → Type 0
IsFirstFaultAt bytes unit Length = (unit ≡ 0) × HasBadLength bytes
IsFirstFaultAt bytes unit TooLong = (unit ≡ 4096) × HasTooManyUnits bytes × (HasBadLength bytes → ⊥)
IsFirstFaultAt bytes unit Memory = ⊥
IsFirstFaultAt bytes unit kind = IsFaultAt bytes unit kind × (HasBadLength bytes → ⊥) × (HasTooManyUnits bytes → ⊥)

abbrev pub IsFirstDecodeFault : List ℕ → DecodeFault → Type 0
IsFirstDecodeFault bytes fault = IsFirstFaultAt bytes fault.unit fault.kind

-- a failed allocation, at unit 0
abbrev pub decode_no_memory : DecodeFault
decode_no_memory = record { unit = 0; kind = Memory }

-- ---- laws

-- bytes that encode a program have no fault
abbrev pub ProgramsHaveNoFault : Type 0
ProgramsHaveNoFault = (program : List Insn) (bytes : List ℕ) (fault : DecodeFault) → IsProgram program → SpellsAll program bytes → IsFirstDecodeFault bytes fault → ⊥

-- bytes have at most one first fault
abbrev pub FaultsAreUnique : Type 0
FaultsAreUnique = (bytes : List ℕ) (a b : DecodeFault) → IsFirstDecodeFault bytes a → IsFirstDecodeFault bytes b → a ≡ b
