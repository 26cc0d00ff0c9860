-- What a role and a pass know about a ring with hands under the lock (own).
use Rattle.std.specs.Prelude.{◌≡◌, ℕ, List, [], ◌∷◌, Option, Some, None, map, length}
use Rattle.rb_chapter_ring.specs.Chapters.{Chapter, joined}
use Rattle.rb_chapter_ring.specs.ChapterRing.{ChapterRing}
use Rattle.rb_ledger.specs.Roles.Role.{Worker}
use Rattle.rb_ledger.specs.ChapteredRing.{ChapteredRing}
use Rattle.rb_ledger.specs.HandedOut.{IsCutOf}
use Rattle.rb_ledger.specs.ChapterKnowledge.{ChapterKnowledge, ChapterPassView, chapter_view}
use Rattle.rb_chapter_ring.specs.Hands.{Hands, HandBook, hands_of}
use Rattle.rb_chapter_ring.specs.HandRing.{HandRing, hand_ring}

-- a ring, with the chapters that it handed out and its book of hands
pub record ChapteredHandRing : Type 0 where
  pub chaptered : ChapteredRing
  pub hands : HandBook

abbrev pub hand_ring_of : ChapteredHandRing → HandRing
hand_ring_of c = hand_ring c.chaptered.ring c.hands

-- where the ring's own chapter begins in its whole history: the number of entries that were handed out
abbrev pub cut_of : ChapteredRing → ℕ
cut_of c = length (joined c.handed_out)

-- what a role knows about the ring with chapters, and how many entries had been handed out when it last saw the ring;
-- and, for a worker, the contents of its hands
pub record HandKnowledge : Type 0 where
  pub chapter : ChapterKnowledge
  pub cut : ℕ
  pub hands : Hands

-- a pass: its roles with what each knows, and the state if the pass holds it
pub record HandPassView : Type 0 where
  pub knows : List HandKnowledge
  pub out : Option ChapteredHandRing

abbrev pub hand_view : List HandKnowledge → Option ChapteredHandRing → HandPassView
hand_view knows out = record { knows = knows; out = out }

-- ---- the same without hands

abbrev pub chapters_out : Option ChapteredHandRing → Option ChapteredRing
chapters_out None = None
chapters_out (Some c) = Some c.chaptered

abbrev pub chapters_known : List HandKnowledge → List ChapterKnowledge
chapters_known ks = map (λ k. k.chapter) ks

abbrev pub without_hands : HandPassView → ChapterPassView
without_hands v = chapter_view (chapters_known v.knows) (chapters_out v.out)

abbrev pub rings_of : List HandRing → List ChapterRing
rings_of vs = map (λ v. v.ring) vs

-- ---- what roles know about a ring

-- For a ring with this room, these chapters handed out and this book: the role knows the room; what it knows to be
-- handed out was, when it last saw the ring; and a worker's hands are those of the book.
pub record KnowsHands (room : ℕ) (handed_out : List Chapter) (book : HandBook) (k : HandKnowledge) : Type 0 where
  pub room_is : k.chapter.room ≡ room
  pub cut_is : IsCutOf handed_out k.cut (length k.chapter.whole.seen.history)
  pub hands_are : (w : ℕ) → k.chapter.whole.role ≡ Worker w → k.hands ≡ hands_of book w

abbrev pub AllKnowHands : ℕ → List Chapter → HandBook → List HandKnowledge → Type 0
AllKnowHands room handed_out book [] = Unit {0}
AllKnowHands room handed_out book (k ∷ ks) = KnowsHands room handed_out book k × AllKnowHands room handed_out book ks
