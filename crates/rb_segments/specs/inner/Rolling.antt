-- The effect of closing a segment and of deleting the oldest ones on the records that a directory holds.
use Rattle.std.specs.Prelude.{ℕ, ◌≡◌, List, [], ◌++◌, Option, None, Some}
use Rattle.rb_history.specs.TapeBytes.{Item, end_of}
use Rattle.rb_segments.specs.Segments.{Directory, HoldsRecords, Segment}

-- the directory still holds its records, which end at this position, except those of deleted segments
abbrev pub KeepsRecords : Option Directory → ℕ → Option Directory → Type 0
KeepsRecords old position new = (size start : ℕ) (deleted : List Segment) (directory : Directory) (items : List Item) →
    old ≡ Some directory → end_of start items ≡ position → HoldsRecords size start deleted directory items [] →
    (gone : List Segment) × (after : Directory) × (new ≡ Some after) × HoldsRecords size start (deleted ++ gone) after items []

-- some of the oldest segments were deleted
abbrev pub DeletesOldest : Option (List Segment) → Option (List Segment) → Type 0
DeletesOldest None new = new ≡ None
DeletesOldest (Some old) None = ⊥
DeletesOldest (Some old) (Some new) = (gone : List Segment) × (old ≡ gone ++ new)
