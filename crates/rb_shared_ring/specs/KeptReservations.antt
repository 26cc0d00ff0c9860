-- The record of a reservation that is in a hand of its seat stays there until the seat commits it, by the contracts of
-- `SharedRing`'s calls (own).
use Rattle.std.specs.Prelude.{◌≡◌, ◌≢◌, ◌↔◌, ℕ, List, None, length, replicate, slice_set, Result, Ok, IfOk, IfErr, IsOk, OnOk}
use Rattle.rb_history.specs.declared.answers.Notice.{Notice}
use Rattle.rb_chapter_ring.specs.declared.faults.ReserveFault.{ReserveFault}
use Rattle.rb_chapter_ring.specs.declared.faults.ReserveFault.TheVariants.{Foreign}
use Rattle.rb_chapter_ring.specs.HandGranted.{HandGranted}
use Rattle.rb_chapter_ring.specs.Hands.{AreAllOut, IsLowestFree}
use Rattle.rb_ledger.specs.Roles.Role.{Worker}
use Rattle.rb_ledger.specs.Seats.{IsSameSeat, Shared, WorkerSeat}
use Rattle.rb_ledger.specs.LockedCalls.{LockedCall}
use Rattle.rb_ledger.specs.EntryRoom.{InRoom}
use Rattle.rb_ledger.specs.NoStranger.{HoldsOwnBusy, IsHeld}
use Rattle.rb_shared_ring.specs.SharedCalls.{IsInSeatsHand, IsRefusedInRoomAs, ReservesInRoom, granted_in, hands_after_reserve}

-- ---- the clauses of a call, under their names

-- of `reserve`
pub record IsReserve (ring : Shared) (old new : WorkerSeat) (n : ℕ) (answer : Result HandGranted (ReserveFault × List ℕ)) : Type 0 where
  pub foreign : IsRefusedInRoomAs Foreign answer ↔ (old.tag ≢ ring.tag)
  pub seat : IsSameSeat old new
  pub call : old.tag ≡ ring.tag → ¬ AreAllOut old.hands
      → LockedCall (Worker old.worker) old.seen new.seen (InRoom old.room new.cut (ReservesInRoom old.room new.cut old.worker n (granted_in answer)))
  pub tag : IfOk answer (λ r. r.tag ≡ old.tag)
  pub hand : IfOk answer (λ r. IsLowestFree old.hands r.hand)
  pub hands : new.hands ≡ hands_after_reserve old.hands n answer

-- of `submit` and of `discard`
pub record IsGivingBack (ring : Shared) (old new : WorkerSeat) (r : HandGranted) (answer : Result Notice HandGranted) : Type 0 where
  pub exact : IsOk answer ↔ IsInSeatsHand ring old r
  pub handed_back : IfErr answer (λ back. (back ≡ r) × (new ≡ old))
  pub seat : IsSameSeat old new
  pub hands : OnOk answer (new.hands ≡ slice_set old.hands r.hand None)

-- of `output`, `query` and `audit`
pub record LeavesHands (old new : WorkerSeat) : Type 0 where
  pub seat : IsSameSeat old new
  pub hands : new.hands ≡ old.hands

-- ---- the law

-- what was out in a hand of the seat is still out in it
abbrev pub KeepsOut : Shared → WorkerSeat → WorkerSeat → Type 0
KeepsOut ring old new = (r : HandGranted) → IsInSeatsHand ring old r → IsInSeatsHand ring new r

-- the same, except for this hand
abbrev pub KeepsOutElsewhere : Shared → WorkerSeat → WorkerSeat → ℕ → Type 0
KeepsOutElsewhere ring old new hand = (r : HandGranted) → r.hand ≢ hand → IsInSeatsHand ring old r → IsInSeatsHand ring new r

-- A record that is granted is out in a hand of the seat. If it is out, its submit and its discard are accepted. A
-- refusal of these keeps everything that is out, and each call keeps what is out in other hands. What is out is busy in
-- the history that the seat has seen, if its hands are as `Seat::facts` states.
pub record KeepsReservations (ring : Shared) (old new : WorkerSeat) : Type 0 where
  pub granted : (n : ℕ) (r : HandGranted) → length old.hands ≡ 4 → IsReserve ring old new n (Ok r) → IsInSeatsHand ring new r
  pub reserves : (n : ℕ) (answer : Result HandGranted (ReserveFault × List ℕ)) → IsReserve ring old new n answer → KeepsOut ring old new
  pub taken : (r : HandGranted) (answer : Result Notice HandGranted) → IsGivingBack ring old new r answer → IsInSeatsHand ring old r → IsOk answer
  pub given_back : (r : HandGranted) (answer : Result Notice HandGranted) → IsGivingBack ring old new r answer → KeepsOutElsewhere ring old new r.hand
  pub others : LeavesHands old new → KeepsOut ring old new
  pub busy : HoldsOwnBusy old.hands old.worker old.seen.history → (r : HandGranted) → IsInSeatsHand ring old r → IsHeld old.worker old.seen r.granted

abbrev pub ReservationsAreKept : Type 0
ReservationsAreKept = (ring : Shared) (old new : WorkerSeat) → KeepsReservations ring old new
