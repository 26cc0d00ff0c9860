-- The abstract contents of the stack, in the form that code stores.
use Rattle.std.specs.Prelude.{◌-◌, ◌<◌, ℕ, nat_le, List, length, slice_index_or, if◌then◌else◌}
use Rattle.rb_verifier.specs.declared.value.Abs.{Abs}
use Rattle.rb_verifier.specs.declared.value.Abs.TheVariants.{Number}
use Rattle.rb_verifier.specs.KeptPointers.{KnownPlaces, IsPlaceValue}

-- the abstract value of a place, from a list of the places from the last one down; places that are not listed have data
abbrev pub from_last : List Abs → KnownPlaces
from_last items place = if nat_le place 63 then slice_index_or items (63 - place) Number else Number

-- the list has at most 64 items, and each is an allowed value of a place
unfoldable pub IsKeptList : List Abs → Type 0
IsKeptList items = (k : ℕ) → k < length items → (k < 64) × IsPlaceValue (slice_index_or items k Number)
