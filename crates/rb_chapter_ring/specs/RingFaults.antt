-- What a refusal says about its ring.
use Rattle.std.specs.Prelude.{ℕ, ◌≡◌}
use Rattle.rb_chapter_ring.specs.ChapterRing.{ChapterRing}
use Rattle.rb_chapter_ring.specs.ChapterCalls.{FindsFullByChapter, FindsChapterFull}
use Rattle.rb_chapter_ring.specs.declared.faults.ReserveFault.{ReserveFault}
use Rattle.rb_chapter_ring.specs.declared.faults.ReserveFault.TheVariants.{Full, Flags, ChapterFull, Foreign, HandsFull}

-- the reason why no record of n bytes was granted holds; a ring of one thread has no foreign seats, and its caller
-- names the hand
abbrev pub RefusesInChapter : ChapterRing → ChapterRing → ℕ → ℕ → ReserveFault → Type 0
RefusesInChapter old new w n Full = FindsFullByChapter old new w n
RefusesInChapter old new w n ChapterFull = FindsChapterFull old new w n
RefusesInChapter old new w n Flags = new ≡ old
RefusesInChapter old new w n Foreign = ⊥
RefusesInChapter old new w n HandsFull = ⊥
