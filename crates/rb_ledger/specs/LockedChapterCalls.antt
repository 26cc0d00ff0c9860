-- What the consumer's calls that concern the chapter of a shared ring do and return, each at one point of the ring's
-- history: how much of it is used, and handing it out. Neither changes the ring with its whole history (own).
use Rattle.std.specs.Prelude.{◌≡◌, ℕ, List, [], ◌∷◌, ◌++◌, length}
use Rattle.rb_chapter_ring.specs.Chapters.{Chapter}
use Rattle.rb_chapter_ring.specs.ChapterRoom.{used, owed}
use Rattle.rb_chapter_ring.specs.ChapterRing.{ChapterRing}
use Rattle.rb_chapter_ring.specs.ChapterCalls.{HandsOut}
use Rattle.rb_ledger.specs.Roles.{Role, Book, book_of, ExtendsSeen}
use Rattle.rb_ledger.specs.Roles.Role.{Consumer}
use Rattle.rb_ledger.specs.LockedCalls.{LockedCall}
use Rattle.rb_ledger.specs.ChapteredRing.{ChapteredRing, whole_of, IsChapteredRing}

-- One call under the lock, by a role that had seen `before` of the whole history and afterwards has seen `after`. When
-- the lock was acquired, the ring was at some point: its whole history began with `before`, and what others had added
-- since has no entry of the role's own. There the ring of one thread made the call by its chapter, which left the ring
-- as the role has then seen it.
pub record LockedChapterCall (role : Role) (before after : Book) (call : ChapteredRing → ChapteredRing → Type 0) : Type 0 where
  pub point : ChapteredRing
  pub left : ChapteredRing
  pub goes_on : ExtendsSeen role before (book_of (whole_of point))
  pub was_ring : IsChapteredRing point
  pub called : call point left
  pub is_ring : IsChapteredRing left
  pub seen : after ≡ book_of (whole_of left)

-- the call left the ring in the same chapter
abbrev pub InOneChapter : (ChapterRing → ChapterRing → Type 0) → ChapteredRing → ChapteredRing → Type 0
InOneChapter Call old new = (new.handed_out ≡ old.handed_out) × Call old.ring new.ring

-- the same for the consumer, which knows the chapters that were handed out
abbrev pub InKnownChapter : List Chapter → (ChapterRing → ChapterRing → Type 0) → ChapteredRing → ChapteredRing → Type 0
InKnownChapter handed_out Call old new = (old.handed_out ≡ handed_out) × InOneChapter Call old new

-- how many entries the chapter has, and how many it owes
abbrev pub TellsUsed : ℕ → ℕ → ChapterRing → ChapterRing → Type 0
TellsUsed entries more old new = (new ≡ old) × (entries ≡ used old.chapter) × (more ≡ owed old.chapter)

-- the ring handed out its chapter, as the next one after those that it had handed out
pub record HandsOutNext (handed_out : List Chapter) (c : Chapter) (old new : ChapteredRing) : Type 0 where
  pub before : old.handed_out ≡ handed_out
  pub after : new.handed_out ≡ handed_out ++ c ∷ []
  pub hands_out : HandsOut old.ring new.ring c

-- ---- neither changes the ring with its whole history

pub record AreWholeLockedCalls (before after : Book) : Type 0 where
  pub tells_used : (handed_out : List Chapter) (entries more : ℕ) → LockedChapterCall Consumer before after (InKnownChapter handed_out (TellsUsed entries more)) → LockedCall Consumer before after (λ old new. new ≡ old)
  pub hands_out : (handed_out : List Chapter) (c : Chapter) → LockedChapterCall Consumer before after (HandsOutNext handed_out c) → LockedCall Consumer before after (λ old new. new ≡ old) × (c.number ≡ length handed_out)

abbrev pub EachCallIsWhole : Type 0
EachCallIsWhole = (before after : Book) → AreWholeLockedCalls before after
