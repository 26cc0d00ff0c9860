-- A ring that turns its own chapters: before a call that needs room in its chapter, it may continue in an empty one
-- (own).
use Rattle.std.specs.Prelude.{◌≡◌, ◌⊎◌}
use Rattle.rb_chapter_ring.specs.Chapters.{Chapter}
use Rattle.rb_chapter_ring.specs.ChapterCalls.{HandsOut}
use Rattle.rb_chapter_ring.specs.HandRing.{HandRing}

-- the chapter was handed out, the ring continues in the next one, and nothing else changed
abbrev pub TurnsChapter : HandRing → HandRing → Type 0
TurnsChapter old new = (out : Chapter) × HandsOut old.ring new.ring out × (new.hands ≡ old.hands)

-- the chapter was turned, or nothing changed
abbrev pub MayTurn : HandRing → HandRing → Type 0
MayTurn old new = (new ≡ old) ⊎ TurnsChapter old new

-- the chapter was turned or not, and then the call was made
abbrev pub AfterTurn : (HandRing → HandRing → Type 0) → HandRing → HandRing → Type 0
AfterTurn Call old new = (mid : HandRing) × MayTurn old mid × Call mid new
