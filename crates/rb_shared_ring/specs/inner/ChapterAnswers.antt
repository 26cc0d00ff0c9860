-- What the calls on a shared ring do and return, in terms of its chapter, besides those that rb_ledger defines. Their
-- contracts are stated over the whole history.
use Rattle.std.specs.Prelude.{◌≡◌, ◌≢◌, ℕ, ◌≤◌, ◌<◌, ◌↔◌, List, length, replicate, Result, Ok, Err}
use Rattle.rb_history.specs.declared.answers.Notice.{Notice}
use Rattle.rb_history.specs.declared.answers.Notice.TheVariants.{Due}
use Rattle.rb_history.specs.ReservationModel.{Granted}
use Rattle.rb_history.specs.NoticesAndQueries.{IsDue}
use Rattle.rb_chapter_ring.specs.CountedFrom.{tally_from}
use Rattle.rb_chapter_ring.specs.ChapterRing.{ChapterRing}
use Rattle.rb_chapter_ring.specs.ChapterCalls.{GrantsByChapter, OutputsByChapter, producer_by_chapter, consumer_by_chapter}
use Rattle.rb_chapter_ring.specs.declared.faults.ReserveFault.{ReserveFault}
use Rattle.rb_chapter_ring.specs.declared.faults.ReserveFault.TheVariants.{Flags}
use Rattle.rb_chapter_ring.specs.OpenedRing.{told_counts}
use Rattle.rb_chapter_ring.specs.RingFaults.{RefusesInChapter}
use Rattle.rb_shared_ring.specs.declared.audit.Audit.{Audit}

-- A record is granted if the ring has room for it and the chapter for all entries that it will log. The refusal is
-- Full, and logged, if the ring has no room and the chapter has room for the entry of a refusal. Otherwise it is
-- ChapterFull, and nothing changes.
abbrev pub ReservesInChapter : ℕ → ℕ → Result Granted (ReserveFault × List ℕ) → ChapterRing → ChapterRing → Type 0
ReservesInChapter w n (Ok r) old new = GrantsByChapter old new w n r.pos r.serial × (r.worker ≡ w) × (r.bytes ≡ replicate n 0)
ReservesInChapter w n (Err e) old new = RefusesInChapter old new w n e.0 × (e.0 ≢ Flags)

abbrev pub OutputsInChapter : ℕ → List ℕ → ℕ → Result Notice (ReserveFault × List ℕ) → ChapterRing → ChapterRing → Type 0
OutputsInChapter w bytes flags (Ok notice) old new = OutputsByChapter old new w bytes × ((notice ≡ Due) ↔ IsDue (consumer_by_chapter old) (producer_by_chapter old) flags) × (flags ≤ 3)
OutputsInChapter w bytes flags (Err e) old new = RefusesInChapter old new w (length bytes) e.0 × ((e.0 ≡ Flags) ↔ (3 < flags))

-- the positions, the counts of the whole history, and the counts of the worker's entries in it
pub record AuditsInChapter (w : ℕ) (a : Audit) (old new : ChapterRing) : Type 0 where
  pub producer_is : a.producer ≡ producer_by_chapter old
  pub consumer_is : a.consumer ≡ consumer_by_chapter old
  pub counts_are : a.counts ≡ told_counts old
  pub own_is : a.own ≡ tally_from old.chapter.opening w old.chapter.entries
  pub same : new ≡ old
