-- A ring as `new` creates it, its bounds, and the chapters in which it may continue (own).
use Rattle.std.specs.Prelude.{ℕ, ◌≡◌, ◌+◌, ◌-◌, ◌<◌, ◌≤◌, ◌^◌, [], min}
use Rattle.std.specs.FinMap.{empty}
use Rattle.rb_history.specs.declared.answers.Counts.{Counts}
use Rattle.rb_history.specs.RoomRule.{Setup}
use Rattle.rb_history.specs.RingModel.{IsRingSize, IsStartPosition, IsWorkerCount}
use Rattle.rb_chapter_ring.specs.CountedFrom.{counts_from}
use Rattle.rb_chapter_ring.specs.Chapters.{Chapter, IsChapterRoom, first_chapter}
use Rattle.rb_chapter_ring.specs.ChapterRing.{ChapterRing}

-- a new ring, whose first chapter has no entries
abbrev pub opened_ring : ℕ → Setup → ChapterRing
opened_ring room r = record { chapter = first_chapter room r; contents = empty; shown = []; producer = r.start; consumer = r.start }

-- the bounds on a ring's parameters and positions
pub record IsChapterRingWithin (v : ChapterRing) : Type 0 where
  pub size : IsRingSize v.chapter.opening.setup.size
  pub start : IsStartPosition v.chapter.opening.setup.start
  pub workers : IsWorkerCount v.chapter.opening.setup.workers
  pub chapter_room : IsChapterRoom v.chapter.room
  pub consumer : v.consumer ≤ v.producer
  pub producer : v.producer ≤ 2 ^ 62
  pub room : v.producer ≤ v.consumer + (v.chapter.opening.setup.size - 1)

-- the ring may continue in that chapter: it has no entries, the same room and number of workers, and there is a next
-- chapter number
pub record MayGoOnIn (v : ChapterRing) (c : Chapter) : Type 0 where
  pub no_entries : c.entries ≡ []
  pub room_same : c.room ≡ v.chapter.room
  pub workers_same : c.opening.setup.workers ≡ v.chapter.opening.setup.workers
  pub numbered : v.chapter.number < 2 ^ 62

-- a number that saturates at 2^64 - 1
abbrev pub capped : ℕ → ℕ
capped n = min n (2 ^ 64 - 1)

-- the counts, of which the refusals saturate at 2^64 - 1
abbrev pub capped_counts : Counts → Counts
capped_counts c = record c { refused = capped c.refused }

-- the six counts that the ring returns
abbrev pub told_counts : ChapterRing → Counts
told_counts v = capped_counts (counts_from v.chapter.opening v.chapter.entries)
