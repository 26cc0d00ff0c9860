-- A ring with chapters, and the chapters that it handed out: together they form the ring with its whole history (own).
--
--      handed out, oldest first                         the ring's own chapter
--     +-----------+ +-----------+     +-------------+  +--------------+
--     | number 0  | | number 1  | ..  | number n-1  |  | number n     |  and its records, contents and positions
--     +-----------+ +-----------+     +-------------+  +--------------+
--      all their entries, then those of its own: the whole history
use Rattle.std.specs.Prelude.{List}
use Rattle.rb_history.specs.RingModel.{Ring}
use Rattle.rb_chapter_ring.specs.Chapters.{Chapter, IsChapterRoom, joined}
use Rattle.rb_chapter_ring.specs.ChapterRoom.{HasRoomForOwed}
use Rattle.rb_chapter_ring.specs.ChapterRing.{ChapterRing, whole_ring}
use Rattle.rb_chapter_ring.specs.WholeHistory.{Binds}
use Rattle.rb_ledger.specs.Ledger.{IsRing}

-- a ring, and the chapters that it handed out, the oldest first
pub record ChapteredRing : Type 0 where
  pub handed_out : List Chapter
  pub ring : ChapterRing

abbrev pub chaptered_ring : List Chapter → ChapterRing → ChapteredRing
chaptered_ring handed_out ring = record { handed_out = handed_out; ring = ring }

-- the ring with its whole history: the entries of the chapters that were handed out, followed by those of its own
abbrev pub whole_of : ChapteredRing → Ring
whole_of c = whole_ring (joined c.handed_out) c.ring

-- The chapters, with the ring's own as the last, are numbered from 0 and begin with the empty ring; each meets the
-- next, and all are legal. The ring's own chapter has room for what it owes, and its room is within bounds.
pub record HasChapters (c : ChapteredRing) : Type 0 where
  pub binds : Binds c.handed_out c.ring.chapter
  pub room : HasRoomForOwed c.ring.chapter
  pub within : IsChapterRoom c.ring.chapter.room

-- the invariant of a ring with chapters that is made by calls
pub record IsChapteredRing (c : ChapteredRing) : Type 0 where
  pub has_chapters : HasChapters c
  pub is_ring : IsRing (whole_of c)
