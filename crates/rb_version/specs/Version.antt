-- The text of a version (own).
use Rattle.std.specs.Prelude.{ℕ, ◌/◌, ◌%◌, List, ◌++◌, ◌∷◌}
use Rattle.std.specs.Fmt.{decimal}

-- the low three bytes of the number in decimal, the highest first, with points between them
abbrev pub version_text : ℕ → List ℕ
version_text n = decimal (n / 65536) ++ 46 ∷ (decimal (n / 256 % 256) ++ 46 ∷ decimal (n % 256))
