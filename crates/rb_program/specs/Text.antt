-- Programs as text: pairs of hex digits with white space between them (own).
use Rattle.std.specs.Prelude.{◌≡◌, ℕ, ◌+◌, ◌*◌, ◌≤◌, ◌⊎◌, not, List, [], ◌∷◌}
use Rattle.std.specs.List.{filter}
use Rattle.std.specs.Char.{is_ascii_whitespace}

-- The character is a hex digit of either case with this value: 0 to 9 are 48 to 57, A to F are 65 to 70, a to f are 97
-- to 102.
abbrev pub IsHexDigit : ℕ → ℕ → Type 0
IsHexDigit c value =
    ((48 ≤ c) × (c ≤ 57) × (value + 48 ≡ c)) ⊎ ((65 ≤ c) × (c ≤ 70) × (value + 55 ≡ c)) ⊎ ((97 ≤ c) × (c ≤ 102) × (value + 87 ≡ c))

-- The text consists of pairs of hex digits that encode these bytes.
abbrev pub IsHexOf : List ℕ → List ℕ → Type 0
IsHexOf [] [] = Unit {0}
IsHexOf [] (byte ∷ bytes) = ⊥
IsHexOf (digit ∷ []) bytes = ⊥
IsHexOf (high ∷ low ∷ text) [] = ⊥
IsHexOf (high ∷ low ∷ text) (byte ∷ bytes) =
    (h : ℕ) × (l : ℕ) × IsHexDigit high h × IsHexDigit low l × (byte ≡ 16 * h + l) × IsHexOf text bytes

-- the text without Rust's ASCII white space: tab, line feed, form feed, carriage return, space
abbrev pub without_white_space : List ℕ → List ℕ
without_white_space text = filter (λ c. not (is_ascii_whitespace c)) text
