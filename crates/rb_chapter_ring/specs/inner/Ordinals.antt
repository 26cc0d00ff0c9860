-- A record's ordinal: the number of records that its ring had granted before it.
use Rattle.std.specs.Prelude.{ℕ, ◌≡◌, ◌+◌, ◌-◌, ◌<◌, ◌≤◌, List, [], Some, length}
use Rattle.std.specs.List.{slice_index_or as get_or}
use Rattle.rb_history.specs.ReservationModel.{Granted}
use Rattle.rb_history.specs.inner.RecordRows.{IsBusyAt}
use Rattle.rb_chapter_ring.specs.Snapshot.{Snapshot, record_in}
use Rattle.rb_chapter_ring.specs.Chapters.{Chapter, closing_of}
use Rattle.rb_chapter_ring.specs.ChapterRing.{ChapterRing}
use Rattle.rb_chapter_ring.specs.declared.out_record.OutRecord.{OutRecord}
use Rattle.rb_chapter_ring.specs.Hands.{hand_at}
use Rattle.rb_chapter_ring.specs.HandRing.{HandRing, HasHands}

-- the number of records that were taken, which is the ordinal of the record at the front
abbrev pub taken_before : Snapshot → ℕ
taken_before o = o.consumed + o.skipped

-- the record at this position was not taken, and has this ordinal
pub record HasOrdinal (o : Snapshot) (p n : ℕ) : Type 0 where
  pub index : ℕ
  pub within : index < length o.records
  pub here : (record_in o index).pos ≡ p
  pub ordinal : n ≡ taken_before o + index

-- a record that was granted before keeps its ordinal
pub record KeepsOrdinals (old new : Snapshot) : Type 0 where
  pub grown : old.producer ≤ new.producer
  pub numbers : (p n : ℕ) → HasOrdinal new p n → p < old.producer → HasOrdinal old p n

abbrev pub KeepsNumbers : Chapter → Chapter → Type 0
KeepsNumbers old new = KeepsOrdinals (closing_of old) (closing_of new)

-- the reservation's record was not taken, is busy, and has this ordinal
pub record HasBusyOrdinal (v : ChapterRing) (r : Granted) (n : ℕ) : Type 0 where
  pub passed : taken_before (closing_of v.chapter) ≤ n
  pub here : IsBusyAt v.shown (n - taken_before (closing_of v.chapter)) r.pos (length r.bytes)

-- the ordinal that is stored for a worker's hand
abbrev pub ordinal_at : List (List ℕ) → ℕ → ℕ → ℕ
ordinal_at ordinals w h = get_or (get_or ordinals w []) h 0

-- there are four for each worker, and those of occupied hands are the ordinals of their records
pub record HasOrdinals (v : HandRing) (ordinals : List (List ℕ)) : Type 0 where
  pub workers : length ordinals ≡ v.ring.chapter.opening.setup.workers
  pub four : (w : ℕ) → w < length ordinals → length (get_or ordinals w []) ≡ 4
  pub numbered : (w h : ℕ) (o : OutRecord) → hand_at v.hands w h ≡ Some o → HasOrdinal (closing_of v.ring.chapter) o.pos (ordinal_at ordinals w h)

-- the invariant of a ring with hands: its book is that of its busy records, and their ordinals are stored beside it
pub record IsHandState (v : HandRing) (ordinals : List (List ℕ)) : Type 0 where
  pub has : HasHands v
  pub counted : HasOrdinals v ordinals
