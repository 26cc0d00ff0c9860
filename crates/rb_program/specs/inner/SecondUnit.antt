-- The second unit of a wide instruction, given its source field.
use Rattle.std.specs.Prelude.{◌≡◌, ◌≢◌, ℕ, ◌<◌, ◌≤◌, Bool, true, false, ◌==◌, ◌&&◌, List, length, slice_index, ◌⊎◌}
use Rattle.rb_program.specs.declared.fault.DecodeKind.{DecodeKind}
use Rattle.rb_program.specs.declared.fault.DecodeKind.TheVariants.{UnusedField, HalfWide}
use Rattle.rb_program.specs.UnitFields.{next_imm_at}

-- the four bytes before the second immediate are zero
abbrev pub has_zeros : List ℕ → Bool
has_zeros bytes = (slice_index bytes 8 == 0) && ((slice_index bytes 9 == 0) && ((slice_index bytes 10 == 0) && (slice_index bytes 11 == 0)))

-- the second immediate, after four zero bytes; it is zero itself unless the instruction loads a number
pub record IsSecondUnit (bytes : List ℕ) (src next : ℕ) : Type 0 where
  pub whole : 16 ≤ length bytes
  pub zeros : has_zeros bytes ≡ true
  pub reads : next ≡ next_imm_at bytes
  pub fits : (src ≡ 0) ⊎ (next ≡ 0)

-- one of the four bytes is not zero, or the second immediate of a map is not
abbrev pub IsBadSecond : List ℕ → ℕ → Type 0
IsBadSecond bytes src = (has_zeros bytes ≡ false) ⊎ ((src ≢ 0) × (next_imm_at bytes ≢ 0))

abbrev pub IsSecondFault : List ℕ → ℕ → DecodeKind → Type 0
IsSecondFault bytes src HalfWide = length bytes < 16
IsSecondFault bytes src UnusedField = (16 ≤ length bytes) × IsBadSecond bytes src
IsSecondFault bytes src kind = ⊥
