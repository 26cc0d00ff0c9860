-- When a text stands for an input, so that a result for the text is right for the input (own). Commands read an input
-- of any length, and keep only as many of its digits as show why it is refused.
use Rattle.std.specs.Prelude.{◌≡◌, ◌⊎◌, ℕ, ◌%◌, List, length}
use Rattle.rb_explain.specs.Explanations.{IsNoHex}
use Rattle.rb_program.specs.FirstDecodeFault.{HasTooManyUnits}
use Rattle.rb_program.specs.Text.{IsHexOf, without_white_space}

-- both are too long for a program, with the same remainder of bytes after whole units
pub record AreTooLong (a b : List ℕ) : Type 0 where
  pub first : HasTooManyUnits a
  pub second : HasTooManyUnits b
  pub alike : length a % 8 ≡ length b % 8

-- the input is the hex encoding of these bytes; or, if its bytes are too long for a program, these are too long in the
-- same way
abbrev pub SpellsLike : List ℕ → List ℕ → Type 0
SpellsLike input bytes =
    IsHexOf (without_white_space input) bytes ⊎ ((own : List ℕ) × IsHexOf (without_white_space input) own × AreTooLong own bytes)

-- the input is not hex if the text is not, and otherwise the text has the input's bytes, or both are too long
pub record StandsFor (input text : List ℕ) : Type 0 where
  pub no_hex : IsNoHex text → IsNoHex input
  pub hex : (bytes : List ℕ) → IsHexOf (without_white_space text) bytes → SpellsLike input bytes
