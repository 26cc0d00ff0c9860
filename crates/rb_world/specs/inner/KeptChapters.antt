-- What each ring of a world keeps of its chapters.
use Rattle.rb_chapter_ring.specs.ChapterRoom.{HasRoomForOwed}
use Rattle.rb_chapter_ring.specs.WholeHistory.{Binds}
use Rattle.rb_world.specs.WorldValue.{KeptRing}

-- the chapters that were handed out, followed by the current one, are those of a ring: numbered from 0, beginning with
-- the empty ring, each continuing the one before, and legal; and the current one has room for the entries that it owes
pub record KeepsChapters (s : KeptRing) : Type 0 where
  pub binds : Binds s.chapters s.ring.state.ring.chapter
  pub room : HasRoomForOwed s.ring.state.ring.chapter
