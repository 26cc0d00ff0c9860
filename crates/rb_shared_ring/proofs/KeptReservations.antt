-- What the clauses of a seat's calls together imply for its reservations.
use Rattle.std.proofs.Common.{◌≡◌, ◌≢◌, ℕ, ◌<◌, List, length, replicate, set, get_or, Result, Ok, Err, Option, Some, None, refl, sym, ap, ◌∙◌, subst, inl, inr, get_or-set_same, get_or-set_other}
use Rattle.std.specs.Prelude.{◌⊎◌, IsOk}
use Rattle.std.proofs.lemmas.Bool.{cases_eq}
use Rattle.std.proofs.lemmas.List.{length-replicate}
use Rattle.rb_history.specs.declared.answers.Notice.{Notice}
use Rattle.rb_chapter_ring.specs.declared.faults.ReserveFault.{ReserveFault}
use Rattle.rb_chapter_ring.specs.declared.out_record.OutRecord.{OutRecord}
use Rattle.rb_chapter_ring.specs.HandGranted.{HandGranted}
use Rattle.rb_chapter_ring.specs.Hands.{Hands, AreAllOut, IsLowestFree, in_hand, out_record}
use Rattle.rb_ledger.specs.Seats.{IsSameSeat, Shared, WorkerSeat}
use Rattle.rb_ledger.specs.NoStranger.{HoldsOwnBusy, IsHeld}
use Rattle.rb_shared_ring.specs.SharedCalls.{IsInSeatsHand}
use Rattle.rb_shared_ring.specs.KeptReservations.{IsReserve, IsGivingBack, LeavesHands, KeepsOut, KeepsOutElsewhere, ReservationsAreKept}

-- a hand that is out differs from a hand that is free
apart : (hands : Hands) (h g : ℕ) (o : OutRecord) → in_hand hands h ≡ None → in_hand hands g ≡ Some o → g ≢ h
apart hands h g o free out same = let no : None ≡ Some o = sym free ∙ ap (in_hand hands) (sym same) ∙ out in absurd (cc)

same-tags : (a b : ℕ) → ((a ≢ b) → ⊥) → a ≡ b
same-tags a b not = elim (cases_eq a b) [
  | inl same ↦ same
  | inr else ↦ absurd (not else)
]

module _ (ring : Shared) (old new : WorkerSeat) where
  -- the same seat has the reservation in its hand if the hand did not change
  stays : IsSameSeat old new → (r : HandGranted) → in_hand new.hands r.hand ≡ in_hand old.hands r.hand → IsInSeatsHand ring old r → IsInSeatsHand ring new r
  stays same r hand held = record {
    seat_is = same.tag_same ∙ held.seat_is;
    tag_is = held.tag_is ∙ sym same.tag_same;
    worker_is = held.worker_is ∙ sym same.worker_same;
    out = hand ∙ held.out;
  }

  reserves-keep : (n : ℕ) (answer : Result HandGranted (ReserveFault × List ℕ)) → IsReserve ring old new n answer → KeepsOut ring old new
  reserves-keep n (Ok g) call r held =
      let other = apart old.hands g.hand r.hand _ call.hand.is_free.free held.out in
      stays call.seat r (ap (λ hands. in_hand hands r.hand) call.hands ∙ get_or-set_other old.hands g.hand r.hand (Some (out_record g.granted.pos g.granted.serial n)) None other) held
  reserves-keep n (Err e) call r held = stays call.seat r (ap (λ hands. in_hand hands r.hand) call.hands) held

  is-granted : (n : ℕ) (r : HandGranted) → length old.hands ≡ 4 → IsReserve ring old new n (Ok r) → IsInSeatsHand ring new r
  is-granted n r four call =
      let own : old.tag ≡ ring.tag = same-tags old.tag ring.tag (λ other. call.foreign.1 other) in
      let some : ¬ AreAllOut old.hands = λ all. all r.hand call.hand.is_free.below call.hand.is_free.free in
      let called = (call.call own some).called.called in
      let long : length r.granted.bytes ≡ n = ap length called.3 ∙ length-replicate n 0 in
      let low : r.hand < length old.hands = subst (λ k. r.hand < k) (sym four) call.hand.is_free.below in
      record {
        seat_is = call.seat.tag_same ∙ own;
        tag_is = call.tag ∙ sym call.seat.tag_same;
        worker_is = called.2 ∙ sym call.seat.worker_same;
        out = ap (λ hands. in_hand hands r.hand) call.hands ∙ get_or-set_same old.hands r.hand (Some (out_record r.granted.pos r.granted.serial n)) None low
            ∙ ap (λ k. Some (out_record r.granted.pos r.granted.serial k)) (sym long);
      }

  given-back-keeps : (r : HandGranted) (answer : Result Notice HandGranted) → IsGivingBack ring old new r answer → KeepsOutElsewhere ring old new r.hand
  given-back-keeps r (Ok notice) call s other held = stays call.seat s (ap (λ hands. in_hand hands s.hand) call.hands ∙ get_or-set_other old.hands r.hand s.hand None None other) held
  given-back-keeps r (Err back) call s other held = subst (λ seat. IsInSeatsHand ring seat s) (sym call.handed_back.1) held

  is-busy : HoldsOwnBusy old.hands old.worker old.seen.history → (r : HandGranted) → IsInSeatsHand ring old r → IsHeld old.worker old.seen r.granted
  is-busy own r held = record {
    worker_is = held.worker_is;
    busy = rw held.worker_is (own.out_is_busy r.hand (out_record r.granted.pos r.granted.serial (length r.granted.bytes)) held.out);
  }

pub reservations-are-kept : ReservationsAreKept
reservations-are-kept ring old new = record {
  granted = is-granted ring old new;
  reserves = reserves-keep ring old new;
  taken = λ r answer call held. call.exact.1 held;
  given_back = given-back-keeps ring old new;
  others = λ call r held. stays ring old new call.seat r (ap (λ hands. in_hand hands r.hand) call.hands) held;
  busy = is-busy ring old new;
}
