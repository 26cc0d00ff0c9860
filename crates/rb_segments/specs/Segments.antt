-- The segments of a ring's tape: consecutive files, each a complete tape that is named by the position of its first
-- record (own; rb_history defines the bytes of a tape).
use Rattle.std.specs.Prelude.{ℕ, ◌≡◌, List, [], ◌∷◌, ◌++◌}
use Rattle.std.specs.List.{flat_map}
use Rattle.rb_history.specs.TapeBytes.{Item, AreItemsFrom, end_of, tape}

-- a segment: the position that names it, and its bytes
pub record Segment : Type 0 where
  pub position : ℕ
  pub bytes : List ℕ

-- the concatenated bytes of segments, in order
abbrev pub joined : List Segment → List ℕ
joined segments = flat_map (λ s. s.bytes) segments

-- the segment is the complete tape of these records, which start at the position that names it
pub record IsTapeOf (size : ℕ) (segment : Segment) (items : List Item) : Type 0 where
  pub stand : AreItemsFrom size segment.position items
  pub text : segment.bytes ≡ tape size items

-- The segments hold these records from `start` on: each is a complete tape, named by the position at which the previous
-- segment ends. For example, if a closed segment holds a record of 16 bytes at 0 and the next record is at 16, the
-- segments are named 0 and 16.
abbrev pub AreSegmentsOf : ℕ → ℕ → List Segment → List Item → Type 0
AreSegmentsOf size start [] items = items ≡ []
AreSegmentsOf size start (segment ∷ segments) items =
    (first : List Item) × (rest : List Item) × (items ≡ first ++ rest) × (segment.position ≡ start) × IsTapeOf size segment first × AreSegmentsOf size (end_of start first) segments rest

-- a directory: the closed segments, the oldest first, and the segment that is being written
pub record Directory : Type 0 where
  pub closed : List Segment
  pub newest : Segment

-- The directory's segments, preceded by the deleted ones, hold these records from `start` on. `part` is the incomplete
-- record at the end of the open segment.
pub record HoldsRecords (size start : ℕ) (deleted : List Segment) (directory : Directory) (items : List Item) (part : List ℕ) : Type 0 where
  pub in_closed : List Item
  pub in_open : List Item
  pub items_are : items ≡ in_closed ++ in_open
  pub closed_hold : AreSegmentsOf size start (deleted ++ directory.closed) in_closed
  pub named : directory.newest.position ≡ end_of start in_closed
  pub stand : AreItemsFrom size directory.newest.position in_open
  pub text : directory.newest.bytes ≡ tape size in_open ++ part
