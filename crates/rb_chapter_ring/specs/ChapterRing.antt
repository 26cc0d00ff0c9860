-- The view that contracts have of a ring with chapters, and when its state agrees with its chapter (own).
use Rattle.std.specs.Prelude.{ℕ, ◌≡◌, ◌⊎◌, ◌↔◌, true, List, ◌++◌, Some, is_some, length}
use Rattle.std.specs.List.{Contains}
use Rattle.std.specs.FinMap.{get}
use Rattle.rb_history.specs.declared.entries.Entry.{Entry}
use Rattle.rb_history.specs.declared.entries.Entry.TheVariants.{Res}
use Rattle.rb_history.specs.History.{Shown, Status}
use Rattle.rb_history.specs.History.Status.{Waiting}
use Rattle.rb_history.specs.RingModel.{Ring, Contents}
use Rattle.rb_chapter_ring.specs.Snapshot.{Snapshot}
use Rattle.rb_chapter_ring.specs.CountedFrom.{producer_from, consumer_from, records_from, status_from}
use Rattle.rb_chapter_ring.specs.Chapters.{Chapter}

-- a ring: its chapter and contents, and what its state shows
pub record ChapterRing : Type 0 where
  pub chapter : Chapter
  pub contents : Contents
  pub shown : List Shown
  pub producer : ℕ
  pub consumer : ℕ

-- a record with these numbers is one of the opening's
abbrev pub IsShown : List Shown → ℕ → ℕ → ℕ → ℕ → Type 0
IsShown ss w k n p = (st : Status) × Contains ss (record { pos = p; len = n; worker = w; serial = k; status = st })

-- a record with these numbers is one of the opening's, or was granted since
abbrev pub IsGranted : Snapshot → List Entry → ℕ → ℕ → ℕ → ℕ → Type 0
IsGranted o h w k n p = IsShown o.records w k n p ⊎ Contains h (Res w k n p)

-- the record at p has n bytes
abbrev pub HasLengthFrom : Snapshot → List Entry → ℕ → ℕ → Type 0
HasLengthFrom o h p n = (w : ℕ) × ((k : ℕ) × IsGranted o h w k n p)

-- The ring shows exactly the records without a Take, in order, and both positions. The contents are those of the
-- waiting records, each with the length of its record.
pub record StandsForChapter (v : ChapterRing) : Type 0 where
  pub shown : v.shown ≡ records_from v.chapter.opening v.chapter.entries
  pub producer_is : v.producer ≡ producer_from v.chapter.opening v.chapter.entries
  pub consumer_is : v.consumer ≡ consumer_from v.chapter.opening v.chapter.entries
  pub contents : (p : ℕ) → (is_some (get v.contents p) ≡ true) ↔ (status_from v.chapter.opening v.chapter.entries p ≡ Waiting)
  pub sized : (p : ℕ) (bytes : List ℕ) → get v.contents p ≡ Some bytes → HasLengthFrom v.chapter.opening v.chapter.entries p (length bytes)

-- the ring with its whole history, where `earlier` has the entries of the chapters that were handed out
abbrev pub whole_ring : List Entry → ChapterRing → Ring
whole_ring earlier v = record {
  setup = v.chapter.opening.setup;
  history = earlier ++ v.chapter.entries;
  contents = v.contents;
  shown = v.shown;
  producer = v.producer;
  consumer = v.consumer;
}
