-- What `feed` opens: a ring with chapters of some room, and a spare chapter.
use Rattle.std.specs.Prelude.{ℕ, ◌≡◌, Option}
use Rattle.rb_chapter_ring.specs.Chapters.{Chapter}
use Rattle.rb_chapter_ring.specs.ChapterRing.{ChapterRing}
use Rattle.rb_chapter_ring.specs.OpenedRing.{opened_ring}
use Rattle.rb_tape_commands.specs.ChapterTurns.{IsSpareOf}

-- the ring has one worker and no records, and the spare chapter is like its own
pub record IsOpenedFeed (room size start : ℕ) (ring : ChapterRing) (spare : Option Chapter) : Type 0 where
  pub ring_is : ring ≡ opened_ring room (record { size = size; start = start; workers = 1 })
  pub spare_is : IsSpareOf ring spare
