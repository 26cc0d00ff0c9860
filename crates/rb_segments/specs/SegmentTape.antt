-- A ring's tape that is written in segments: its writer, and the effect of a call (own).
use Rattle.std.specs.Prelude.{ℕ, ◌≡◌, ◌-◌, ◌%◌, ◌^◌, ◌==◌, ◌&&◌, Bool, nat_le, nat_lt, if◌then◌else◌, List, [], ◌∷◌, ◌++◌, length, Option, None, Some}
use Rattle.rb_history.specs.TapeBytes.{Item, end_of, tape}
use Rattle.rb_segments.specs.Segments.{AreSegmentsOf, Directory, HoldsRecords, Segment}
use Rattle.rb_segments.specs.declared.fault.SegmentFault.{SegmentFault}
use Rattle.rb_segments.specs.declared.plan.SegmentPlan.{SegmentPlan}

-- A writer of segments: the store, the file of the open segment, the ring's size, the position of the oldest segment
-- when the writer was made, the positions of the closed segments and of the open one, the position of the next record,
-- when segments are rolled and deleted, the fault that ended the tape, and how many records were not written since.
pub record SegmentTape (S F : Type 0) : Type 0 where
  pub store : S
  pub writer : F
  pub size : ℕ
  pub first : ℕ
  pub closed : List ℕ
  pub opened : ℕ
  pub position : ℕ
  pub plan : SegmentPlan
  pub fault : Option SegmentFault
  pub unwritten : ℕ

-- a writer for a ring of this size with this plan, whose tape no fault has ended
pub record IsSetUp {S F : Type 0} (size : ℕ) (plan : SegmentPlan) (t : SegmentTape S F) : Type 0 where
  pub size_is : t.size ≡ size
  pub plan_is : t.plan ≡ plan
  pub sound : t.fault ≡ None

-- ---- when a segment is closed, and which are deleted

-- a tape may start at this position
abbrev pub may_start : ℕ → Bool
may_start position = (position % 8 == 0) && nat_le position (2 ^ 61)

-- the open segment is closed at a record's end once it has `segment` bytes
abbrev pub is_full : SegmentPlan → ℕ → ℕ → Bool
is_full plan opened position = nat_le plan.segment (position - opened) && may_start position

-- the position of the open segment when the next record is at `position`
abbrev pub opened_after : SegmentPlan → ℕ → ℕ → ℕ
opened_after plan opened position = if is_full plan opened position then position else opened

-- the closed segments at that point, before any is deleted
abbrev pub closed_after : SegmentPlan → List ℕ → ℕ → ℕ → List ℕ
closed_after plan closed opened position = if is_full plan opened position then closed ++ opened ∷ [] else closed

-- The closed segments that remain: the oldest are deleted until those that are left, together with the open one, have
-- at most `keep` bytes. For example, with closed segments at 0, 64 and 128, the open one at 192, the next record at 200
-- and a `keep` of 100, only the one at 128 remains.
abbrev pub kept : ℕ → ℕ → List ℕ → List ℕ
kept keep position [] = []
kept keep position (oldest ∷ closed) = if nat_lt keep (position - oldest) then kept keep position closed else oldest ∷ closed

-- the first of these positions, or the given one if the list is empty
abbrev pub first_or : ℕ → List ℕ → ℕ
first_or other [] = other
first_or other (position ∷ positions) = position

-- ---- what the directory holds

-- a function of two values, if both are known
abbrev pub both : {A B C : Type 0} → Option A → Option B → (A → B → C) → Option C
both None b f = None
both (Some a) None f = None
both (Some a) (Some b) f = Some (f a b)

-- the directory of these closed segments and of a newest one with this position and these bytes
abbrev pub directory : ℕ → List Segment → List ℕ → Directory
directory opened closed bytes = record { closed = closed; newest = record { position = opened; bytes = bytes } }

-- The directory of a store and the file of its open segment, which has this position, if both are known. `segments` are
-- the closed segments of a store, and `contents` the bytes of a file.
abbrev pub directory_at : {S F : Type 0} → (S → Option (List Segment)) → (F → Option (List ℕ)) → S → F → ℕ → Option Directory
directory_at segments contents store writer opened = both (segments store) (contents writer) (directory opened)

abbrev pub directory_of : {S F : Type 0} → (S → Option (List Segment)) → (F → Option (List ℕ)) → SegmentTape S F → Option Directory
directory_of segments contents t = directory_at segments contents t.store t.writer t.opened

-- The directory, preceded by the deleted segments, holds all of these records from `start` on, unless a fault ended the
-- tape. In that case it holds a prefix of them and part of the next one, and the others are counted as unwritten.
pub record HasWritten {S F : Type 0} (segments : S → Option (List Segment)) (contents : F → Option (List ℕ)) (start : ℕ) (deleted : List Segment) (items : List Item) (t : SegmentTape S F) : Type 0 where
  pub directory : Directory
  pub known : directory_of segments contents t ≡ Some directory
  pub whole : List Item
  pub left : List Item
  pub items_are : items ≡ whole ++ left
  pub part : List ℕ
  pub missing : List ℕ
  pub holds : HoldsRecords t.size start deleted directory whole part
  pub cut : part ++ missing ≡ tape t.size left
  pub position : t.position ≡ end_of start items
  pub all : t.fault ≡ None → left ≡ []
  pub counted : t.unwritten ≡ length left

-- a record is written, or counted as unwritten, and some of the oldest segments may be deleted
abbrev pub WritesRecord : {S F : Type 0} → (S → Option (List Segment)) → (F → Option (List ℕ)) → SegmentTape S F → Item → SegmentTape S F → Type 0
WritesRecord segments contents old item new = (start : ℕ) (deleted : List Segment) (items : List Item) →
    HasWritten segments contents start deleted items old → (gone : List Segment) × HasWritten segments contents start (deleted ++ gone) (items ++ item ∷ []) new

-- A tape that ended without a fault: the store's segments, preceded by the deleted ones, are complete tapes of these
-- records from `start` on.
abbrev pub HasEnded : {S : Type 0} → (S → Option (List Segment)) → ℕ → ℕ → List Segment → List Item → S → Type 0
HasEnded segments size start deleted items store = (closed : List Segment) × (segments store ≡ Some closed) × AreSegmentsOf size start (deleted ++ closed) items
