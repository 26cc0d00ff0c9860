-- What each call of a ring adds to its chapter and changes in its contents (own).
use Rattle.std.specs.Prelude.{ℕ, ◌≡◌, true, List, [], ◌∷◌, ◌++◌, length, Some}
use Rattle.std.specs.FinMap.{get, insert, remove}
use Rattle.rb_history.specs.declared.entries.Entry.{Entry}
use Rattle.rb_history.specs.declared.entries.Entry.TheVariants.{Res, Full, Sub, Dis, Take}
use Rattle.rb_history.specs.declared.answers.Taken.{Taken}
use Rattle.rb_history.specs.declared.answers.Taken.TheVariants.{Event, Skipped, BusyFront, Empty}
use Rattle.rb_history.specs.History.Status.{Busy, Waiting, Discarded}
use Rattle.rb_history.specs.ReservationModel.{Granted}
use Rattle.rb_chapter_ring.specs.Snapshot.{Snapshot}
use Rattle.rb_chapter_ring.specs.CountedFrom.{producer_from, consumer_from, grants_from, is_granted_from, status_from, HasRoomFrom}
use Rattle.rb_chapter_ring.specs.Chapters.{Chapter, Meets}
use Rattle.rb_chapter_ring.specs.ChapterRoom.{MayGrant, MayRefuse}
use Rattle.rb_chapter_ring.specs.ChapterRing.{ChapterRing, IsGranted, HasLengthFrom}

-- ---- the current state of a ring's chapter

abbrev pub producer_by_chapter : ChapterRing → ℕ
producer_by_chapter v = producer_from v.chapter.opening v.chapter.entries

abbrev pub consumer_by_chapter : ChapterRing → ℕ
consumer_by_chapter v = consumer_from v.chapter.opening v.chapter.entries

abbrev pub ChapterRingHasRoom : ChapterRing → ℕ → Type 0
ChapterRingHasRoom v n = HasRoomFrom v.chapter.opening v.chapter.entries n

-- a record with these four numbers is busy
pub record IsBusyFrom (o : Snapshot) (h : List Entry) (p w k n : ℕ) : Type 0 where
  pub granted_is : IsGranted o h w k n p
  pub busy : status_from o h p ≡ Busy

-- the record of the reservation is busy
abbrev pub HoldsReservationFrom : ChapterRing → Granted → Type 0
HoldsReservationFrom v r = IsBusyFrom v.chapter.opening v.chapter.entries r.pos r.worker r.serial (length r.bytes)

-- the record at the consumer position is busy
pub record HasBusyFrontByChapter (v : ChapterRing) : Type 0 where
  pub granted_is : is_granted_from v.chapter.opening v.chapter.entries (consumer_by_chapter v) ≡ true
  pub busy : status_from v.chapter.opening v.chapter.entries (consumer_by_chapter v) ≡ Busy

-- every record was taken
abbrev pub AllTakenByChapter : ChapterRing → Type 0
AllTakenByChapter v = producer_by_chapter v ≡ consumer_by_chapter v

-- only the entries of the chapter changed
abbrev pub IsSameChapter : ChapterRing → ChapterRing → Type 0
IsSameChapter old new = new.chapter ≡ record old.chapter { entries = new.chapter.entries }

-- the entries were appended to the chapter, and nothing else of it changed
abbrev pub LogsByChapter : ChapterRing → ChapterRing → List Entry → Type 0
LogsByChapter old new entries = new.chapter ≡ record old.chapter { entries = old.chapter.entries ++ entries }

-- ---- reserve and output

-- a record of n bytes was granted to worker w, at position p with serial k
pub record GrantsByChapter (old new : ChapterRing) (w n p k : ℕ) : Type 0 where
  pub room : ChapterRingHasRoom old n
  pub chapter_room : MayGrant old.chapter
  pub position : p ≡ producer_by_chapter old
  pub serial : k ≡ grants_from old.chapter.opening w old.chapter.entries
  pub logged : LogsByChapter old new (Res w k n p ∷ [])
  pub contents_same : new.contents ≡ old.contents

-- the ring has no room for a record of n bytes, and the refusal is logged
pub record FindsFullByChapter (old new : ChapterRing) (w n : ℕ) : Type 0 where
  pub no_room : ¬ ChapterRingHasRoom old n
  pub chapter_room : MayRefuse old.chapter w
  pub logged : LogsByChapter old new (Full w n ∷ [])
  pub contents_same : new.contents ≡ old.contents

-- the chapter has no room: for a grant if the ring has room, otherwise for the refusal; nothing changes
pub record FindsChapterFull (old new : ChapterRing) (w n : ℕ) : Type 0 where
  pub no_grant : ChapterRingHasRoom old n → ¬ MayGrant old.chapter
  pub no_refusal : ¬ ChapterRingHasRoom old n → ¬ MayRefuse old.chapter w
  pub same : new ≡ old

-- a record of these bytes was granted and submitted in one call
pub record OutputsByChapter (old new : ChapterRing) (w : ℕ) (bytes : List ℕ) : Type 0 where
  pub room : ChapterRingHasRoom old (length bytes)
  pub chapter_room : MayGrant old.chapter
  pub logged : LogsByChapter old new (Res w (grants_from old.chapter.opening w old.chapter.entries) (length bytes) (producer_by_chapter old) ∷ Sub (producer_by_chapter old) ∷ [])
  pub contents_are : new.contents ≡ insert old.contents (producer_by_chapter old) bytes

-- ---- submit and discard

-- the record of the reservation was submitted, with its bytes
pub record SubmitsByChapter (old new : ChapterRing) (r : Granted) : Type 0 where
  pub was_busy : HoldsReservationFrom old r
  pub logged : LogsByChapter old new (Sub r.pos ∷ [])
  pub contents_are : new.contents ≡ insert old.contents r.pos r.bytes

-- the record of the reservation was discarded
pub record DiscardsByChapter (old new : ChapterRing) (r : Granted) : Type 0 where
  pub was_busy : HoldsReservationFrom old r
  pub logged : LogsByChapter old new (Dis r.pos ∷ [])
  pub contents_same : new.contents ≡ old.contents

-- no busy record has the four numbers of the reservation
pub record StraysByChapter (old new : ChapterRing) (r : Granted) : Type 0 where
  pub not_busy : ¬ HoldsReservationFrom old r
  pub same : new ≡ old

-- ---- take

-- the waiting record at the consumer position was taken, and its bytes are returned
pub record TakesEventByChapter (old new : ChapterRing) (p w k : ℕ) (bytes : List ℕ) : Type 0 where
  pub front : p ≡ consumer_by_chapter old
  pub granted_is : IsGranted old.chapter.opening old.chapter.entries w k (length bytes) p
  pub waiting : status_from old.chapter.opening old.chapter.entries p ≡ Waiting
  pub bytes_are : get old.contents p ≡ Some bytes
  pub logged : LogsByChapter old new (Take p ∷ [])
  pub contents_are : new.contents ≡ remove old.contents p

-- the discarded record at the consumer position was skipped
pub record SkipsByChapter (old new : ChapterRing) (p n : ℕ) : Type 0 where
  pub front : p ≡ consumer_by_chapter old
  pub granted_is : HasLengthFrom old.chapter.opening old.chapter.entries p n
  pub discarded : status_from old.chapter.opening old.chapter.entries p ≡ Discarded
  pub logged : LogsByChapter old new (Take p ∷ [])
  pub contents_same : new.contents ≡ old.contents

pub record FindsBusyFrontByChapter (old new : ChapterRing) : Type 0 where
  pub front : HasBusyFrontByChapter old
  pub same : new ≡ old

pub record FindsEmptyByChapter (old new : ChapterRing) : Type 0 where
  pub all_taken : AllTakenByChapter old
  pub same : new ≡ old

abbrev pub TakesByChapter : ChapterRing → ChapterRing → Taken → Type 0
TakesByChapter old new (Event p w k bytes) = TakesEventByChapter old new p w k bytes
TakesByChapter old new (Skipped p n) = SkipsByChapter old new p n
TakesByChapter old new BusyFront = FindsBusyFrontByChapter old new
TakesByChapter old new Empty = FindsEmptyByChapter old new

-- ---- handing out a chapter

-- the old chapter was handed out as it was, and the next one begins where it ends, without entries and with the same
-- room
pub record IsNextChapter (old new : ChapterRing) (out : Chapter) : Type 0 where
  pub out_is : out ≡ old.chapter
  pub next_is : Meets old.chapter new.chapter
  pub no_entries : new.chapter.entries ≡ []
  pub room_same : new.chapter.room ≡ old.chapter.room

-- the chapter was handed out, and nothing else of the ring changed
pub record HandsOut (old new : ChapterRing) (out : Chapter) : Type 0 where
  pub next : IsNextChapter old new out
  pub contents_same : new.contents ≡ old.contents
  pub shown_same : new.shown ≡ old.shown
  pub producer_same : new.producer ≡ old.producer
  pub consumer_same : new.consumer ≡ old.consumer
