-- The laws of hands: what each entry, and each call of a ring, does to the book of hands (own).
use Rattle.std.specs.Prelude.{◌≡◌, ◌≢◌, ◌↔◌, ℕ, ◌<◌, List, [], ◌∷◌, ◌++◌, Option, Some, None}
use Rattle.rb_history.specs.declared.entries.Entry.{Entry}
use Rattle.rb_history.specs.declared.entries.Entry.TheVariants.{Res, Full, Sub, Dis, Take}
use Rattle.rb_history.specs.declared.answers.Taken.{Taken}
use Rattle.rb_history.specs.RoomRule.{Setup}
use Rattle.rb_history.specs.Legal.{IsLegal}
use Rattle.rb_history.specs.Calls.{IsBusy}
use Rattle.rb_history.specs.ReservationModel.{Granted}
use Rattle.rb_chapter_ring.specs.Chapters.{Chapter}
use Rattle.rb_chapter_ring.specs.ChapterRing.{whole_ring}
use Rattle.rb_chapter_ring.specs.ChapterCalls.{HoldsReservationFrom, FindsFullByChapter, FindsChapterFull, OutputsByChapter, TakesByChapter, HandsOut}
use Rattle.rb_chapter_ring.specs.WholeHistory.{ContinuesHistory, IsKept}
use Rattle.rb_chapter_ring.specs.declared.out_record.OutRecord.{OutRecord}
use Rattle.rb_chapter_ring.specs.Hands.{out_record, HandBook, hand_at, hands_of, with_hand, free_book, IsFree, IsShaped, IsBookOf}
use Rattle.rb_chapter_ring.specs.HandRing.{HandRing, HasHands, HasInHand, GrantsToHand, SubmitsFromHand, DiscardsFromHand}

-- ---- one hand changes

-- the hand was set to x, and all other hands, of this worker and of the others, are unchanged
pub record ChangesOneHand (workers : ℕ) (old new : HandBook) (w h : ℕ) (x : Option OutRecord) : Type 0 where
  pub shaped : IsShaped workers new
  pub changed : hand_at new w h ≡ x
  pub others : (v g : ℕ) → (v ≡ w → g ≡ h → ⊥) → hand_at new v g ≡ hand_at old v g
  pub other_workers : (v : ℕ) → v ≢ w → hands_of new v ≡ hands_of old v

abbrev pub OneHandChanges : Type 0
OneHandChanges =
    (workers : ℕ) (book : HandBook) → IsShaped workers book → (w h : ℕ) → w < workers → h < 4 → (x : Option OutRecord)
    → ChangesOneHand workers book (with_hand book w h x) w h x

-- ---- a whole history and its book

-- in the empty history no record is in any hand
abbrev pub BookBeginsFree : Type 0
BookBeginsFree = (workers : ℕ) → IsShaped workers (free_book workers) × IsBookOf (free_book workers) []

-- the book of a legal history, and the book after the entries of one more call
pub record EntriesKeepBook (r : Setup) (h : List Entry) (book : HandBook) : Type 0 where
  pub grants : (w k n p hand : ℕ) → IsLegal r (h ++ Res w k n p ∷ []) → w < r.workers → IsFree (hands_of book w) hand
      → IsBookOf (with_hand book w hand (Some (out_record p k n))) (h ++ Res w k n p ∷ [])
  pub refuses : (w n : ℕ) → IsBookOf book (h ++ Full w n ∷ [])
  pub submits : (w hand : ℕ) (o : OutRecord) → hand_at book w hand ≡ Some o → IsBookOf (with_hand book w hand None) (h ++ Sub o.pos ∷ [])
  pub discards : (w hand : ℕ) (o : OutRecord) → hand_at book w hand ≡ Some o → IsBookOf (with_hand book w hand None) (h ++ Dis o.pos ∷ [])
  pub outputs : (w k n p : ℕ) → IsLegal r (h ++ Res w k n p ∷ Sub p ∷ []) → IsBookOf book (h ++ Res w k n p ∷ Sub p ∷ [])
  pub takes : (p : ℕ) → IsLegal r (h ++ Take p ∷ []) → IsBookOf book (h ++ Take p ∷ [])

abbrev pub BookGoesOn : Type 0
BookGoesOn = (r : Setup) (h : List Entry) (book : HandBook) → IsLegal r h → IsShaped r.workers book → IsBookOf book h → EntriesKeepBook r h book

-- of any five busy records of one worker, two are the same: a worker has at most four
abbrev pub AtMostFourBusy : Type 0
AtMostFourBusy =
    (r : Setup) (h : List Entry) (book : HandBook) → IsLegal r h → IsShaped r.workers book → IsBookOf book h
    → (w : ℕ) (p k n : ℕ → ℕ) → ((i : ℕ) → i < 5 → IsBusy h (p i) w (k i) (n i)) → (i : ℕ) × (j : ℕ) × (i < j) × (j < 5) × (p i ≡ p j)

-- ---- a ring and its book

-- each call preserves the book, and so does handing out a chapter
pub record CallsKeepHands (old new : HandRing) : Type 0 where
  pub grants : (w hand n p k : ℕ) → w < old.ring.chapter.opening.setup.workers → GrantsToHand old new w hand n p k → HasHands new
  pub finds_full : (w n : ℕ) → w < old.ring.chapter.opening.setup.workers → FindsFullByChapter old.ring new.ring w n → new.hands ≡ old.hands → HasHands new
  pub finds_chapter_full : (w n : ℕ) → FindsChapterFull old.ring new.ring w n → new.hands ≡ old.hands → HasHands new
  pub outputs : (w : ℕ) (bytes : List ℕ) → w < old.ring.chapter.opening.setup.workers → OutputsByChapter old.ring new.ring w bytes → new.hands ≡ old.hands → HasHands new
  pub submits : (hand : ℕ) (r : Granted) → SubmitsFromHand old new hand r → HasHands new
  pub discards : (hand : ℕ) (r : Granted) → DiscardsFromHand old new hand r → HasHands new
  pub takes : (t : Taken) → TakesByChapter old.ring new.ring t → new.hands ≡ old.hands → HasHands new
  pub hands_out : (out : Chapter) → HandsOut old.ring new.ring out → new.hands ≡ old.hands → HasHands new

abbrev pub EachCallKeepsHands : Type 0
EachCallKeepsHands = (earlier : List Entry) (old new : HandRing) → IsKept earlier old.ring.chapter → HasHands old → CallsKeepHands old new

-- A reservation whose numbers are in a hand of its worker is busy, so its submit and its discard are not refused.
abbrev pub InHandIsBusy : Type 0
InHandIsBusy = (v : HandRing) (hand : ℕ) (r : Granted) → HasHands v → HasInHand v hand r → HoldsReservationFrom v.ring r

-- the book of a ring is that of its whole history
abbrev pub BookIsWhole : Type 0
BookIsWhole =
    (earlier : List Entry) (v : HandRing) → ContinuesHistory earlier v.ring.chapter → IsShaped v.ring.chapter.opening.setup.workers v.hands
    → HasHands v ↔ IsBookOf v.hands (whole_ring earlier v.ring).history
