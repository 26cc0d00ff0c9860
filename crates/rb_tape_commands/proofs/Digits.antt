-- The digits from arithmetic are those of the table.
use Rattle.std.proofs.Common.{◌≡◌, ℕ, zero, suc, ◌<◌, ◌==◌, Bool, true, ◌&&◌, inl, inr, slice_index, refl, arith}
use Rattle.std.proofs.lemmas.Bool.{and_parts, cases_lt, eqb-true}
use Rattle.hex.specs.Hex.{lower_digits}
use Rattle.rb_tape_commands.specs.inner.HexDigits.{digit_code}

abbrev agrees : ℕ → Bool
agrees n = digit_code n == slice_index lower_digits n

abbrev all_agree : ℕ → Bool
all_agree zero = true
all_agree (suc n) = agrees n && all_agree n

agree_at : (n k : ℕ) → all_agree n ≡ true → k < n → agrees k ≡ true
agree_at zero k h lt = absurd (omega arith)
agree_at (suc n) k h lt =
    let parts = and_parts (agrees n) (all_agree n) h in
    elim (cases_lt k n) [
      | inl below ↦ agree_at n k parts.1 below
      | inr top ↦
          let e : k ≡ n = omega arith in
          rw e parts.0
    ]

pub digit_of : (n : ℕ) → n < 16 → digit_code n ≡ slice_index lower_digits n
digit_of n below = eqb-true (digit_code n) (slice_index lower_digits n) (agree_at 16 n refl below)
