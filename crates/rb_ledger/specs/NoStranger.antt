-- No stranger: a reservation that a seat made on a ring is busy there, at its position, until that seat commits it,
-- whatever other threads do. Its submit and its discard are not refused, and all other calls of the seat leave it
-- unchanged. This is stated for what the seat has seen, and then with hands: a seat shows the contents of its worker's
-- hands, and at every moment, wherever the ring's state is, the ring's book has that record in that hand, and it is
-- busy (own).
use Rattle.std.specs.Prelude.{◌≡◌, ◌≢◌, ◌↔◌, ℕ, true, List, [], ◌∷◌, Some, length, Result, is_ok}
use Rattle.std.specs.List.{Contains}
use mathlib.Core.Option.{some}
use lib.ListN.{get_elem?}
use Rattle.rb_history.specs.declared.entries.Entry.{Entry}
use Rattle.rb_history.specs.declared.answers.Notice.{Notice}
use Rattle.rb_history.specs.Calls.{IsBusy, Grants, FindsFull, Outputs}
use Rattle.rb_history.specs.ReservationModel.{Granted}
use Rattle.rb_history.specs.RingModel.{Ring}
use Rattle.rb_chapter_ring.specs.ChapterCalls.{IsBusyFrom, HoldsReservationFrom}
use Rattle.rb_ledger.specs.Roles.{Book, ExtendsSeen}
use Rattle.rb_ledger.specs.Roles.Role.{Worker}
use Rattle.rb_ledger.specs.LockedCalls.{LockedCall, SubmitsAt, DiscardsAt}
use Rattle.rb_chapter_ring.specs.declared.out_record.OutRecord.{OutRecord}
use Rattle.rb_chapter_ring.specs.Hands.{out_record, Hands, HandBook, in_hand, hands_of, hand_at, IsBookOf}
use Rattle.rb_chapter_ring.specs.HandRing.{HandRing, HasInHand}
use Rattle.rb_ledger.specs.HandKnowledge.{ChapteredHandRing, hand_ring_of, HandKnowledge, HandPassView, hand_view}
use Rattle.rb_ledger.specs.LockRule.{KeepsHandLockRule}
use Rattle.rb_ledger.specs.HandLockSteps.{TakesHandState, PutsHandState}

-- ---- at the calls of a seat

-- the worker holds the record of the reservation: it is the worker's, and it is busy in the history that its seat has
-- seen
pub record IsHeld (w : ℕ) (seen : Book) (r : Granted) : Type 0 where
  pub worker_is : r.worker ≡ w
  pub busy : IsBusy seen.history r.pos r.worker r.serial (length r.bytes)

-- one call of the ring at a worker's seat, which had seen `before` and afterwards has seen `after`
abbrev pub SeatCall : ℕ → Book → Book → (Ring → Ring → Type 0) → Type 0
SeatCall w before after Call = LockedCall (Worker w) before after Call

-- what the worker held before the call it still holds after it
abbrev pub LeavesHeld : ℕ → Book → Book → Type 0
LeavesHeld w before after = (s : Granted) → IsHeld w before s → IsHeld w after s

-- except for a record at this position
abbrev pub LeavesHeldElsewhere : ℕ → Book → Book → ℕ → Type 0
LeavesHeldElsewhere w before after p = (s : Granted) → s.pos ≢ p → IsHeld w before s → IsHeld w after s

-- A record that is granted is held, at a position where none was. If a record is held, its submit and its discard are
-- accepted, whatever others did since. Each call leaves all other held records unchanged.
pub record CallsKeepHeld (w : ℕ) (before after : Book) : Type 0 where
  pub granted : (r : Granted) → r.worker ≡ w → SeatCall w before after (λ old new. Grants old new w (length r.bytes) r.pos r.serial) → IsHeld w after r
  pub elsewhere : (n p k : ℕ) → SeatCall w before after (λ old new. Grants old new w n p k) → (s : Granted) → IsHeld w before s → s.pos ≢ p
  pub grants : (n p k : ℕ) → SeatCall w before after (λ old new. Grants old new w n p k) → LeavesHeld w before after
  pub finds_full : (n : ℕ) → SeatCall w before after (λ old new. FindsFull old new w n) → LeavesHeld w before after
  pub outputs : (bytes : List ℕ) → SeatCall w before after (λ old new. Outputs old new w bytes) → LeavesHeld w before after
  pub no_change : SeatCall w before after (λ old new. new ≡ old) → LeavesHeld w before after
  pub submit_taken : (r : Granted) (flags : ℕ) (answer : Result Notice Granted) → SeatCall w before after (SubmitsAt r flags answer) → IsHeld w before r → is_ok answer ≡ true
  pub submits : (r : Granted) (flags : ℕ) (answer : Result Notice Granted) → SeatCall w before after (SubmitsAt r flags answer) → LeavesHeldElsewhere w before after r.pos
  pub discard_taken : (r : Granted) (flags : ℕ) (answer : Result Notice Granted) → SeatCall w before after (DiscardsAt r flags answer) → IsHeld w before r → is_ok answer ≡ true
  pub discards : (r : Granted) (flags : ℕ) (answer : Result Notice Granted) → SeatCall w before after (DiscardsAt r flags answer) → LeavesHeldElsewhere w before after r.pos

abbrev pub HeldUntilGivenBack : Type 0
HeldUntilGivenBack = (w : ℕ) (before after : Book) → CallsKeepHeld w before after

-- ---- at every moment, with hands

-- the ring's book has the record in the worker's hand, and it is busy
pub record IsOutAt (v : HandRing) (w h : ℕ) (o : OutRecord) : Type 0 where
  pub in_book : hand_at v.hands w h ≡ Some o
  pub busy : IsBusyFrom v.ring.chapter.opening v.ring.chapter.entries o.pos w o.serial o.len

-- the pass shows, for the worker, this record in this hand
pub record ShowsOut (v : HandPassView) (w h : ℕ) (o : OutRecord) : Type 0 where
  pub knowledge : HandKnowledge
  pub among : Contains v.knows knowledge
  pub role_is : knowledge.chapter.whole.role ≡ Worker w
  pub out_is : in_hand knowledge.hands h ≡ Some o

-- wherever the ring's state is: in the queue, or out with any pass
pub record IsOutWherever (queued : List HandRing) (views : List HandPassView) (w h : ℕ) (o : OutRecord) : Type 0 where
  pub in_queue : (v : HandRing) → Contains queued v → IsOutAt v w h o
  pub with_pass : (pass : ℕ) (v : HandPassView) (c : ChapteredHandRing) → get_elem? views pass ≡ some v → v.out ≡ Some c → IsOutAt (hand_ring_of c) w h o

abbrev pub NoStranger : Type 0
NoStranger =
    (queued : List HandRing) (views : List HandPassView) → KeepsHandLockRule queued views → (pass : ℕ) (v : HandPassView) → get_elem? views pass ≡ some v
    → (w h : ℕ) (o : OutRecord) → ShowsOut v w h o → IsOutWherever queued views w h o

-- ---- under the lock, with hands

-- a state that a pass takes out has what the pass shows, so it meets the precondition of a submit or a discard of it
abbrev pub TakenAsShown : Type 0
TakenAsShown =
    (v w : HandPassView) (r : HandRing) → TakesHandState v r w → (g : Granted) (h : ℕ) → ShowsOut v g.worker h (out_record g.pos g.serial (length g.bytes))
    → HasInHand r h g × HoldsReservationFrom r.ring g

-- after the pass has put back a state with the same content of the hand, it still shows it
abbrev pub StaysShown : Type 0
StaysShown =
    (me : HandKnowledge) (out : ChapteredHandRing) (new : HandRing) (w : HandPassView) → PutsHandState (hand_view (me ∷ []) (Some out)) new w → (u h : ℕ) (o : OutRecord) → me.chapter.whole.role ≡ Worker u
    → hand_at out.hands u h ≡ Some o → hand_at new.hands u h ≡ hand_at out.hands u h → ShowsOut w u h o

-- ---- hands by the history that a seat has seen

-- one worker's hands hold exactly its busy records, each once
pub record HoldsOwnBusy (hands : Hands) (w : ℕ) (h : List Entry) : Type 0 where
  pub out_is_busy : (g : ℕ) (o : OutRecord) → in_hand hands g ≡ Some o → IsBusy h o.pos w o.serial o.len
  pub busy_is_out : (p k n : ℕ) → IsBusy h p w k n → (g : ℕ) × (in_hand hands g ≡ Some (out_record p k n))
  pub each_once : (f g : ℕ) (x y : OutRecord) → in_hand hands f ≡ Some x → in_hand hands g ≡ Some y → x.pos ≡ y.pos → f ≡ g

-- a worker's busy records are those of what its seat has seen: what comes after that has no entry of the worker's own
abbrev pub OwnBusyIsSeen : Type 0
OwnBusyIsSeen = (w : ℕ) (seen b : Book) → ExtendsSeen (Worker w) seen b → (p k n : ℕ) → IsBusy seen.history p w k n ↔ IsBusy b.history p w k n

-- so the worker's hands in the book of a ring are those of what its seat has seen
abbrev pub HandsAreSeen : Type 0
HandsAreSeen = (w : ℕ) (seen b : Book) (book : HandBook) → ExtendsSeen (Worker w) seen b → IsBookOf book b.history → HoldsOwnBusy (hands_of book w) w seen.history

-- and their contents remain busy at every later point of the ring's history
abbrev pub SeenHandsAreBusy : Type 0
SeenHandsAreBusy = (w : ℕ) (seen b : Book) (hands : Hands) → ExtendsSeen (Worker w) seen b → HoldsOwnBusy hands w seen.history → HoldsOwnBusy hands w b.history
