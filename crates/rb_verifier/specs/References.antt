-- References to records that were reserved and must be submitted or discarded (Linux Documentation/bpf, "verifier", on
-- acquired references; the bound of four and the order by id are own).
use Rattle.std.specs.Prelude.{ℕ, ◌<◌, Bool, true, ◌==◌, nat_le, not, if◌then◌else◌, List, [], ◌∷◌, length}
use Rattle.std.specs.List.{AllByRecursion}
use Rattle.rb_verifier.specs.declared.references.Reference.{Reference}

-- the ids are strictly ascending
abbrev pub IsAscending : List Reference → Type 0
IsAscending [] = Unit {0}
IsAscending (r ∷ rs) = AllByRecursion (λ later. r.id < later.id) rs × IsAscending rs

-- each reference was reserved at a unit before this one
abbrev pub AreEarlier : ℕ → List Reference → Type 0
AreEarlier unit held = AllByRecursion (λ r. r.id < unit) held

-- four are held
abbrev pub is_full : List Reference → Bool
is_full held = nat_le 4 (length held)

abbrev pub is_empty : List Reference → Bool
is_empty held = length held == 0

abbrev pub has_id : ℕ → Reference → Bool
has_id id r = r.id == id

abbrev pub other_than : ℕ → Reference → Bool
other_than id r = not (r.id == id)

-- the reference, marked as tested against null if it has this id
abbrev pub tested_in : ℕ → Reference → Reference
tested_in id r = if r.id == id then record r { sure = true } else r
