-- The meaning of a ring's fields, and their invariant.
use Rattle.std.specs.Prelude.{ℕ, ◌≡◌, ◌+◌, ◌-◌, ◌*◌, ◌/◌, ◌%◌, ◌≤◌, ◌^◌, List, [], ◌∷◌, ◌++◌, map, length}
use Rattle.std.specs.List.{All, slice_index_or as get_or}
use Rattle.std.specs.Int.{IsPowerOfTwo}
use Rattle.rb_history.specs.declared.entries.Entry.{Entry}
use Rattle.rb_history.specs.declared.answers.Counts.{Counts}
use Rattle.rb_history.specs.declared.stored_records.StoredRecord.{StoredRecord}
use Rattle.rb_history.specs.declared.stored_records.RecordState.{RecordState}
use Rattle.rb_history.specs.declared.stored_records.RecordState.TheVariants.{Reserved, Submitted, Discarded as DiscardedState}
use Rattle.rb_history.specs.History.{Shown, Status}
use Rattle.rb_history.specs.History.Status.{Busy, Waiting}
use Rattle.rb_history.specs.Counting.{counts_of}
use Rattle.rb_history.specs.RingModel.{IsRingSize, IsStartPosition, IsWorkerCount}
use Rattle.rb_history.specs.StoredRecords.{shown_record, contents_of, IsSized}
use Rattle.rb_chapter_ring.specs.Snapshot.{Snapshot}
use Rattle.rb_chapter_ring.specs.Chapters.{Chapter, IsChapterRoom, closing_of}
use Rattle.rb_chapter_ring.specs.ChapterRing.{ChapterRing}
use Rattle.rb_chapter_ring.specs.WholeHistory.{IsKept}
use Rattle.rb_chapter_ring.specs.declared.ring.RingState.TheInside.{Inside}
use Rattle.rb_chapter_ring.specs.OpenedRing.{capped_counts}
use Rattle.rb_chapter_ring.specs.Hands.{HandBook}
use Rattle.rb_chapter_ring.specs.HandRing.{hand_ring}
use Rattle.rb_chapter_ring.specs.TaggedRing.{TaggedRing}
use Rattle.rb_chapter_ring.specs.inner.Ordinals.{taken_before, IsHandState}

-- the state of a record with the bytes of its slot
abbrev pub state_with : Status → List ℕ → RecordState
state_with Busy bytes = Reserved
state_with Waiting bytes = Submitted bytes
state_with _ bytes = DiscardedState

abbrev pub stored_at : Shown → List ℕ → StoredRecord
stored_at s bytes = record { pos = s.pos; len = s.len; worker = s.worker; serial = s.serial; state = state_with s.status bytes }

-- the records from an ordinal on, where the slots are a circular buffer
abbrev pub stored_from : ℕ → List (List ℕ) → ℕ → List Shown → List StoredRecord
stored_from slots sheets n [] = []
stored_from slots sheets n (s ∷ ss) = stored_at s (get_or sheets (n % slots) []) ∷ stored_from slots sheets (n + 1) ss

-- the records of an opening
abbrev pub stored_in : Snapshot → List (List ℕ) → List StoredRecord
stored_in o sheets = stored_from (length sheets) sheets (taken_before o) o.records

-- the chapter's records, with their bytes
abbrev pub stored_of : Chapter → List (List ℕ) → List StoredRecord
stored_of c sheets = stored_in (closing_of c) sheets

-- the ring that the chapter and the records form
abbrev pub ring_of : Chapter → List StoredRecord → ChapterRing
ring_of c stored = record {
  chapter = c;
  contents = contents_of stored;
  shown = map shown_record stored;
  producer = (closing_of c).producer;
  consumer = (closing_of c).consumer;
}

-- a ring without its tag and its hands: its chapter, its slots, and the two counts that are stored
pub record RingParts : Type 0 where
  pub chapter : Chapter
  pub sheets : List (List ℕ)
  pub refused : ℕ
  pub discarded : ℕ

abbrev pub parts_of : Inside → RingParts
parts_of a = record { chapter = a.chapter; sheets = a.sheets.items; refused = a.refused; discarded = a.discarded }

abbrev pub ring_in : RingParts → ChapterRing
ring_in p = ring_of p.chapter (stored_of p.chapter p.sheets)

abbrev pub ring_shown : Inside → TaggedRing
ring_shown a = record { tag = a.tag; state = hand_ring (ring_in (parts_of a)) a.hands.items }

-- facts about the records, by the summary at the chapter's end
pub record IsStored (size : ℕ) (o : Snapshot) (stored : List StoredRecord) : Type 0 where
  pub limit : o.producer ≤ 2 ^ 62
  pub space : o.producer ≤ o.consumer + (size - 1)
  pub aligned : o.consumer % 8 ≡ 0
  pub shown : map shown_record stored ≡ o.records
  pub behind : 8 * taken_before o ≤ o.consumer

-- the parts form a ring, where `earlier` has the entries of the chapters that were handed out
pub record IsRingOf (earlier : List Entry) (c : Chapter) (stored : List StoredRecord) (counts : Counts) : Type 0 where
  pub kept : IsKept earlier c
  pub size : IsRingSize c.opening.setup.size
  pub start : IsStartPosition c.opening.setup.start
  pub workers : IsWorkerCount c.opening.setup.workers
  pub chapter_room : IsChapterRoom c.room
  pub stands : IsStored c.opening.setup.size (closing_of c) stored
  pub sized : All IsSized stored
  pub counted : counts ≡ capped_counts (counts_of (earlier ++ c.entries))
  pub granted : counts.made ≡ taken_before (closing_of c) + length stored

-- the parts form a ring with these two counts, and there is a slot for each of as many records as the ring and the
-- chapter have room for
pub record AreParts (p : RingParts) : Type 0 where
  pub earlier : List Entry
  pub counts : Counts
  pub ring : IsRingOf earlier p.chapter (stored_of p.chapter p.sheets) counts
  pub refused_is : p.refused ≡ counts.refused
  pub discarded_is : p.discarded ≡ counts.discarded
  pub power : IsPowerOfTwo (length p.sheets)
  pub slots : (n : ℕ) → n ≤ p.chapter.opening.setup.size / 8 → n ≤ p.chapter.room → n ≤ length p.sheets

-- the invariant of a ring: the book of hands is that of its busy records, and their ordinals are stored beside it
pub record IsRingState (p : RingParts) (book : HandBook) (ordinals : List (List ℕ)) : Type 0 where
  pub parts : AreParts p
  pub hands : IsHandState (hand_ring (ring_in p) book) ordinals
