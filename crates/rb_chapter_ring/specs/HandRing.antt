-- A ring with its book of hands, and what each call that changes a hand does (own).
use Rattle.std.specs.Prelude.{◌≡◌, ℕ, Some, None, length}
use Rattle.rb_history.specs.ReservationModel.{Granted}
use Rattle.rb_chapter_ring.specs.ChapterRing.{ChapterRing}
use Rattle.rb_chapter_ring.specs.ChapterCalls.{IsBusyFrom, GrantsByChapter, SubmitsByChapter, DiscardsByChapter}
use Rattle.rb_chapter_ring.specs.Hands.{out_record, HandBook, hand_at, hands_of, with_hand, IsFree, IsShaped, HoldsBusy}

-- a ring, and its book of hands
pub record HandRing : Type 0 where
  pub ring : ChapterRing
  pub hands : HandBook

abbrev pub hand_ring : ChapterRing → HandBook → HandRing
hand_ring ring hands = record { ring = ring; hands = hands }

-- the invariant of a ring's hands: there are four for each worker, and the book's positions are exactly those of the
-- busy records, each once
pub record HasHands (v : HandRing) : Type 0 where
  pub shaped : IsShaped v.ring.chapter.opening.setup.workers v.hands
  pub holds : HoldsBusy v.hands (IsBusyFrom v.ring.chapter.opening v.ring.chapter.entries)

-- the book has the reservation's numbers for its worker and this hand
abbrev pub HasInHand : HandRing → ℕ → Granted → Type 0
HasInHand v hand r = hand_at v.hands r.worker hand ≡ Some (out_record r.pos r.serial (length r.bytes))

-- ---- the calls that change a hand; all others leave the book unchanged

-- a record was granted into a hand that was free
pub record GrantsToHand (old new : HandRing) (w hand n p k : ℕ) : Type 0 where
  pub grants : GrantsByChapter old.ring new.ring w n p k
  pub was_free : IsFree (hands_of old.hands w) hand
  pub marked : new.hands ≡ with_hand old.hands w hand (Some (out_record p k n))

-- the record of a hand was submitted, and the hand is free
pub record SubmitsFromHand (old new : HandRing) (hand : ℕ) (r : Granted) : Type 0 where
  pub was_out : HasInHand old hand r
  pub submits : SubmitsByChapter old.ring new.ring r
  pub freed : new.hands ≡ with_hand old.hands r.worker hand None

-- the record of a hand was discarded, and the hand is free
pub record DiscardsFromHand (old new : HandRing) (hand : ℕ) (r : Granted) : Type 0 where
  pub was_out : HasInHand old hand r
  pub discards : DiscardsByChapter old.ring new.ring r
  pub freed : new.hands ≡ with_hand old.hands r.worker hand None
