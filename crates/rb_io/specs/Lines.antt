-- The format of lines of output, as bytes (own).
use Rattle.std.specs.Prelude.{ℕ, List, [], ◌∷◌, ◌++◌, codes}
use Rattle.hex.specs.Hex.{encode_lower}

-- the bytes in hex; `-` if there are none
abbrev pub hex_text : List ℕ → List ℕ
hex_text [] = codes "-"
hex_text (byte ∷ bytes) = encode_lower (byte ∷ bytes)

-- a line: the text, and a line feed
abbrev pub line : List ℕ → List ℕ
line text = text ++ 10 ∷ []
