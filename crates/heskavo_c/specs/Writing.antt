-- What is written into a caller's buffer (own).
use Rattle.std.specs.Prelude.{◌≡◌, ℕ, List, ◌++◌, drop, length}

-- these bytes were written to the front of the buffer, and the bytes after them did not change
abbrev pub WritesFront : List ℕ → (old new : List ℕ) → Type 0
WritesFront bytes old new = new ≡ bytes ++ drop (length bytes) old
