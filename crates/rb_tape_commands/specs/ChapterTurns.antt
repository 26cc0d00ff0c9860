-- A ring that continues in its next chapter before its own is full, and the empty spare chapter that is kept for that.
use Rattle.std.specs.Prelude.{◌≡◌, ◌⊎◌, Option, Some}
use Rattle.rb_chapter_ring.specs.Chapters.{Chapter, empty_chapter}
use Rattle.rb_chapter_ring.specs.ChapterRoom.{MayGrant}
use Rattle.rb_chapter_ring.specs.ChapterRing.{ChapterRing}
use Rattle.rb_chapter_ring.specs.ChapterCalls.{HandsOut}

-- the spare chapter is empty, with the room and for the workers of the ring's own chapter
abbrev pub IsSpareOf : ChapterRing → Option Chapter → Type 0
IsSpareOf v spare = spare ≡ Some (empty_chapter v.chapter.room v.chapter.opening.setup.workers)

-- the ring keeps its chapter if it has room for all entries of one more record; otherwise the chapter is handed out
abbrev pub MakesChapterRoom : ChapterRing → ChapterRing → Type 0
MakesChapterRoom old new = (MayGrant old.chapter × (new ≡ old)) ⊎ (¬ MayGrant old.chapter × ((out : Chapter) × HandsOut old new out))
