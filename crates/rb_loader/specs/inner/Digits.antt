-- The digits that are kept of a text.
use Rattle.std.specs.Prelude.{◌≡◌, ◌⊎◌, ℕ, ◌%◌, ◌<◌, ◌==◌, ◌||◌, not, Bool, true, if◌then◌else◌, List, [], ◌∷◌, ◌++◌, length, take}
use Rattle.std.specs.List.{list_all, list_any}
use Rattle.std.specs.Char.{is_ascii_hexdigit, is_ascii_whitespace}
use Rattle.rb_program.specs.Text.{without_white_space}

-- neither a hex digit nor white space
abbrev pub is_odd : ℕ → Bool
is_odd byte = not (is_ascii_whitespace byte || is_ascii_hexdigit byte)

abbrev pub has_odd : List ℕ → Bool
has_odd bytes = list_any is_odd bytes

-- a full list of 65,568 digits, without those of its last unit; any other list, unchanged
abbrev pub shortened : List ℕ → List ℕ
shortened kept = if length kept == 65568 then take 65552 kept else kept

-- one more digit
abbrev pub one_more : List ℕ → ℕ → List ℕ
one_more kept digit = shortened kept ++ digit ∷ []

-- both have more digits than a program, and the same number modulo the 16 digits of a unit
pub record AreManyDigits (all kept : List ℕ) : Type 0 where
  pub all_many : 65536 < length all
  pub kept_many : 65536 < length kept
  pub alike : length all % 16 ≡ length kept % 16

-- these digits are kept of a text of digits and white space: all of them, or if there are too many, some in the sense
-- of `AreManyDigits`
pub record KeepsOf (text kept : List ℕ) : Type 0 where
  pub are_digits : list_all is_ascii_hexdigit (without_white_space text) ≡ true
  pub kept_are : (kept ≡ without_white_space text) ⊎ AreManyDigits (without_white_space text) kept
