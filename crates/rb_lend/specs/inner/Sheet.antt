-- The representation of a sheet's bytes.
use Rattle.std.specs.Prelude.{◌≡◌, ◌<◌, ◌^◌, ℕ, Bool, true, false, List, length, replicate}
use Rattle.rb_lend.specs.declared.sheet.Bytes.{Bytes}
use Rattle.rb_lend.specs.declared.sheet.Bytes.TheVariants.{InPlace, OnHeap, Zeros}

-- the bytes
abbrev pub sheet_bytes : Bytes → List ℕ
sheet_bytes (InPlace bytes) = bytes
sheet_bytes (OnHeap bytes) = bytes.items
sheet_bytes (Zeros bytes) = bytes.items

-- the bytes were set to zero, and not lent for writing since then
abbrev pub is_known_zero : Bytes → Bool
is_known_zero (InPlace bytes) = false
is_known_zero (OnHeap bytes) = false
is_known_zero (Zeros bytes) = true

-- the invariant of a sheet
pub record IsSheet (bytes : Bytes) : Type 0 where
  pub short : length (sheet_bytes bytes) < 2 ^ 32
  pub zeros : is_known_zero bytes ≡ true → sheet_bytes bytes ≡ replicate (length (sheet_bytes bytes)) 0
