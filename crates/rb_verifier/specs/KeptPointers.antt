-- The abstract contents of the stack: for each place, an aligned 8-byte slot, the abstract value of a register that
-- loads it. A number means that the place has data, a pointer that it holds this pointer, and Unreadable that it may
-- have either (own profile).
use Rattle.std.specs.Prelude.{◌≢◌, ℕ, ℤ, ◌+◌, ◌+ℤ◌, ◌==◌, ◌&&◌, Bool, true, false, not, List, map, slice_index_or, Option, Some, None, Result, Ok, Err, if◌then◌else◌}
use Rattle.std.specs.List.{range_with_len}
use Rattle.rb_verifier.specs.declared.rule.Rule.{Rule}
use Rattle.rb_verifier.specs.declared.rule.Rule.TheVariants as rule
use Rattle.rb_verifier.specs.declared.value.Abs.{Abs}
use Rattle.rb_verifier.specs.declared.value.Abs.TheVariants.{Number, Known, Stack}
use Rattle.rb_verifier.specs.StackPlaces.{stack_byte, whole_place, touches, any_place}
use Rattle.rb_verifier.specs.ValueChecks.{◌>>=◌, refused_if, check_readable, check_number}

-- the abstract values that a place may have: data, a pointer, or either; never a known number, since the value of data
-- is not tracked
abbrev pub IsPlaceValue : Abs → Type 0
IsPlaceValue (Known n) = ⊥
IsPlaceValue _ = Unit {0}

-- the abstract value of each place, by its number; those that code stores satisfy `IsPlaceValue`
abbrev pub KnownPlaces : Type 0
KnownPlaces = ℕ → Abs

-- the places as a list of 64 values
abbrev pub listed_places : KnownPlaces → List Abs
listed_places places = map places (range_with_len 0 64)

abbrev pub known_in : List Abs → KnownPlaces
known_in places place = slice_index_or places place Number

-- every place has data
abbrev pub all_data : List Abs
all_data = listed_places (λ place. Number)

-- some place may hold a pointer
abbrev pub MayKeepPointer : List Abs → Type 0
MayKeepPointer places = places ≢ all_data

-- the value is a number, so the place has data
abbrev pub is_data : Abs → Bool
is_data Number = true
is_data (Known n) = true
is_data v = false

-- the stack byte at `value + by`, if the value is a pointer to the stack
abbrev pub byte_behind : Abs → ℤ → Option ℕ
byte_behind (Stack offset) by = stack_byte (offset +ℤ by)
byte_behind v by = None

-- the places after one is set
abbrev pub with_place : ℕ → Abs → KnownPlaces → KnownPlaces
with_place place v places other = if other == place then v else places other

-- the places after data is stored: those that overlap the `len` bytes from byte `at` on have data
abbrev pub with_data : ℕ → ℕ → KnownPlaces → KnownPlaces
with_data at len places place = if touches at len place then Number else places place

-- whether one of the `len` bytes from byte `at` on may belong to a pointer
abbrev pub may_keep : ℕ → ℕ → KnownPlaces → Bool
may_keep at len places = any_place (λ place. touches at len place && not (is_data (places place))) (at + len)

-- bytes that are read as data must not belong to a pointer
abbrev pub check_data : Option ℕ → ℕ → KnownPlaces → Result (Unit {0}) Rule
check_data None len places = Ok tt
check_data (Some at) len places = refused_if (may_keep at len places) rule.Unreadable

-- the result of a load: of a whole place, or of other bytes, which must be data
abbrev pub check_filled : Option ℕ → ℕ → ℕ → KnownPlaces → Result Abs Rule
check_filled (Some place) at len places = Ok (places place)
check_filled None at len places = check_data (Some at) len places >>= (λ _. Ok Number)

-- the result of a load of `len` bytes, from a byte of the stack or from another part
abbrev pub check_loaded : Option ℕ → ℕ → KnownPlaces → Result Abs Rule
check_loaded None len places = Ok Number
check_loaded (Some at) len places = check_filled (whole_place at len) at len places

-- the places after a store of a pointer: the place with exactly these bytes holds it, and no other store of a pointer
-- is allowed
abbrev pub check_kept : Option ℕ → Abs → KnownPlaces → Result (List Abs) Rule
check_kept (Some place) v places = check_readable v >>= (λ _. Ok (listed_places (with_place place v places)))
check_kept None v places = check_readable v >>= (λ _. Err rule.PointerStored)

-- the places after a store of `len` bytes of a value, to a byte of the stack or to another part: a number leaves data
abbrev pub check_stored : Option ℕ → ℕ → Abs → List Abs → Result (List Abs) Rule
check_stored None len v places = check_number rule.PointerStored v >>= (λ _. Ok places)
check_stored (Some at) len v places =
    if is_data v then Ok (listed_places (with_data at len (known_in places))) else check_kept (whole_place at len) v (known_in places)
