-- A keeper's turn: one check of a ring's chapter (own).
use Rattle.std.specs.Prelude.{ℕ, ◌≡◌, ◌+◌, ◌<◌, List, [], ◌∷◌, Option, None, Some}
use denote.Ref.{Bor}
use Rattle.rb_chapter_ring.specs.Chapters.{Chapter}
use Rattle.rb_ledger.specs.Roles.{Book}
use Rattle.rb_ledger.specs.Roles.Role.{Consumer}
use Rattle.rb_ledger.specs.ChapterSeats.{ChapterConsumerSeat}
use Rattle.rb_ledger.specs.LockedChapterCalls.{LockedChapterCall, InKnownChapter, TellsUsed, HandsOutNext}

-- a chapter of this room has entries, and these, the `more` entries that it owes, three for another grant and the
-- margin exceed the room
abbrev pub IsTurnDue : ℕ → ℕ → ℕ → ℕ → Type 0
IsTurnDue margin room entries more = (0 < entries) × (room < entries + more + 3 + margin)

-- the chapter has the room and the number of workers of the seat's ring
pub record IsOfRing (s : ChapterConsumerSeat) (c : Chapter) : Type 0 where
  pub room_is : c.room ≡ s.room
  pub workers_are : c.opening.setup.workers ≡ s.seen.setup.workers

-- the chapters that a turn lent
abbrev pub chapters_lent : Option (Bor Chapter) → List Chapter
chapters_lent None = []
chapters_lent (Some c) = c.now ∷ []

-- After the look, the chapter was handed out if it was due, as it was under the lock at that time; otherwise the seat
-- saw nothing further.
abbrev pub HandsOutDue : Type 0 → Book → ChapterConsumerSeat → ChapterConsumerSeat → List Chapter → Type 0
HandsOutDue due looked old new [] = ¬ due × (new.seen ≡ looked)
HandsOutDue due looked old new (c ∷ cs) = due × LockedChapterCall Consumer looked new.seen (HandsOutNext old.handed_out c)

-- A turn with a consumer's seat: a look at the ring's chapter, which returned how many entries it had and how many it
-- owed, and after which the seat has seen `looked`. The chapter was lent if and only if it was due at that look, and it
-- is the chapter that was under the lock when it was handed out.
pub record TurnsChapter (margin : ℕ) (old new : ChapterConsumerSeat) (lent : List Chapter) : Type 0 where
  pub entries : ℕ
  pub more : ℕ
  pub looked : Book
  pub look : LockedChapterCall Consumer old.seen looked (InKnownChapter old.handed_out (TellsUsed entries more))
  pub hands_out : HandsOutDue (IsTurnDue margin old.room entries more) looked old new lent
