-- A call by a seat, in the chapter that its ring then has.
use Rattle.std.specs.Prelude.{◌≡◌, ℕ, List, length}
use Rattle.rb_chapter_ring.specs.Chapters.{Chapter, joined}
use Rattle.rb_chapter_ring.specs.ChapterRing.{ChapterRing}
use Rattle.rb_ledger.specs.ChapteredRing.{ChapteredRing}
use Rattle.rb_ledger.specs.LockedChapterCalls.{InOneChapter, InKnownChapter}

-- The call left the ring in the same chapter, which has this room, and before which `cut` entries had been handed out.
-- That determines which entries of the whole history the chapter has, and whether it has room for more.
pub record InRoomAt (room cut : ℕ) (Call : ChapterRing → ChapterRing → Type 0) (old new : ChapteredRing) : Type 0 where
  pub room_is : old.ring.chapter.room ≡ room
  pub cut_is : length (joined old.handed_out) ≡ cut
  pub call : InOneChapter Call old new

-- the same for the consumer, which knows the chapters that were handed out
pub record InKnownRoom (room : ℕ) (handed_out : List Chapter) (Call : ChapterRing → ChapterRing → Type 0) (old new : ChapteredRing) : Type 0 where
  pub room_is : old.ring.chapter.room ≡ room
  pub call : InKnownChapter handed_out Call old new
