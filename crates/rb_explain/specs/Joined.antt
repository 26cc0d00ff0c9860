-- Concatenated texts.
use Rattle.std.specs.Prelude.{ℕ, zero, suc, List, [], ◌++◌}

-- the texts of the numbers below a bound, in order
abbrev pub joined_below : (ℕ → List ℕ) → ℕ → List ℕ
joined_below text zero = []
joined_below text (suc n) = joined_below text n ++ text n
