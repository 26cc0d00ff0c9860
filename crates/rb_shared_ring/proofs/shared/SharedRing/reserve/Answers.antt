use Rattle.std.proofs.Common.{◌≡◌, ◌∙◌, Some, sym, ap, subst, set, IfOk}
use Rattle.std.proofs.lemmas.List.{length-set}
use Rattle.crossbeam_queue.specs.Passes.{view}
use Rattle.rb_ledger.specs.Roles.Role.{Worker}
use Rattle.rb_ledger.specs.Seats.{WorkerSeat, Ties}
use Rattle.rb_ledger.specs.LockedCalls.{LockedCall}
use Rattle.rb_ledger.specs.EntryRoom.{InRoom}
use Rattle.rb_ledger.proofs.WholeCalls.{in-one-chapter}
use Rattle.rb_shared_ring.specs.inner.HandPasses.{seen_with, hands_by, cut_by}
use Rattle.rb_shared_ring.specs.SharedCalls.{ReservesInRoom, granted_in, hands_reserved}
use Rattle.rb_shared_ring.proofs.RoomCalls.{reserves-called}
use Rattle.rb_shared_ring.proofs.SeatNumbers.{book-in, tied-low, reserve-fits, reserve-tied, serial-in, keeps-hands}
use Rattle.rb_chapter_ring.specs.declared.faults.ReserveFault.TheVariants.{Full}
use Rattle.rb_shared_ring.proofs.SeatPassing.{refused-in, serial-in-hand, hands-kept}
use Rattle.rb_shared_ring.proofs.shared.SharedRing.reserve.Goals as goal

pub after_reserve-seat-inside-requires-clause-made : goal.after_reserve-seat-inside-requires-clause-made
after_reserve-seat-inside-requires-clause-made g c = (tied-low _ _ _ c.seat.invariant.1.book c.seat.invariant.1.ties).made

pub after_reserve-seat-inside-requires-clause-refused : goal.after_reserve-seat-inside-requires-clause-refused
after_reserve-seat-inside-requires-clause-refused g c = λ is.
    reserve-fits c.seat.inside.worker c.seat.inside.tally _ _ c.seat.invariant.1.ties c.args.n (granted_in c.reserve_with-answer.result) (in-one-chapter _ _ _ _ _ _ c.reserve_with-answer.ensures.call) (refused-in Full c.reserve_with-answer.result is)

pub invariant_of-seat : goal.invariant_of-seat
invariant_of-seat g c =
    let e = c.reserve_with-answer.ensures in
    let i = c.seat.invariant in
    let hand = c.in-Some.hand in
    let ties = reserve-tied c.seat.inside.worker c.seat.inside.tally _ _ i.1.ties c.args.n (granted_in c.reserve_with-answer.result) (in-one-chapter _ _ _ _ _ _ e.call) in (
      e.same.2 ∙ i.0,
      record { idle = e.idle; book = book-in _ _ _ _ e.call; ties = subst (λ t. Ties c.seat.inside.worker t (seen_with (view c.reserve_with-answer.new.pass))) (sym c.after_reserve-seat-inside.ensures.counted) ties },
      keeps-hands _ _ _ _ _ i.2
          (e.hands ∙ ap (hands_reserved (hands_by (view c.seat.inside.pass)) hand c.args.n) c.in-Ok.is ∙ (λ k. set (i.2.shows k) hand (Some (sym c.out_record.ensures.record k))))
          (length-set c.seat.inside.hands hand (Some c.out_record.result) ∙ i.2.four)
          e.holds,
    )

pub invariant_of-seat-in_default-answer : goal.invariant_of-seat-in_default-answer
invariant_of-seat-in_default-answer g c =
    let e = c.reserve_with-answer.ensures in
    let i = c.seat.invariant in
    let ties = reserve-tied c.seat.inside.worker c.seat.inside.tally _ _ i.1.ties c.args.n (granted_in c.reserve_with-answer.result) (in-one-chapter _ _ _ _ _ _ e.call) in (
      e.same.2 ∙ i.0,
      record { idle = e.idle; book = book-in _ _ _ _ e.call; ties = subst (λ t. Ties c.seat.inside.worker t (seen_with (view c.reserve_with-answer.new.pass))) (sym c.after_reserve-seat-inside.ensures.counted) ties },
      keeps-hands _ _ _ _ _ i.2 (e.hands ∙ hands-kept (hands_by (view c.seat.inside.pass)) c.in-Some.hand c.args.n c.reserve_with-answer.result c.in_default-answer.not-Ok ∙ i.2.shows) i.2.four e.holds,
    )

pub returns-in-Ok-clause-call : goal.returns-in-Ok-clause-call
returns-in-Ok-clause-call g c =
    λ _ _. subst (λ (s : WorkerSeat). LockedCall (Worker s.worker) s.seen (seen_with (view c.reserve_with-answer.new.pass)) (InRoom s.room (cut_by (view c.reserve_with-answer.new.pass)) (ReservesInRoom s.room (cut_by (view c.reserve_with-answer.new.pass)) s.worker c.args.n (granted_in c.reserve_with-answer.result)))) c.seat.view_is
    (reserves-called _ _ _ c.seat.invariant.1.ties.in_ring _ _ c.args.n (granted_in c.reserve_with-answer.result) c.reserve_with-answer.ensures.call)

pub returns-in_default-answer-clause-call : goal.returns-in_default-answer-clause-call
returns-in_default-answer-clause-call g c =
    λ _ _. subst (λ (s : WorkerSeat). LockedCall (Worker s.worker) s.seen (seen_with (view c.reserve_with-answer.new.pass)) (InRoom s.room (cut_by (view c.reserve_with-answer.new.pass)) (ReservesInRoom s.room (cut_by (view c.reserve_with-answer.new.pass)) s.worker c.args.n (granted_in c.reserve_with-answer.result)))) c.seat.view_is
    (reserves-called _ _ _ c.seat.invariant.1.ties.in_ring _ _ c.args.n (granted_in c.reserve_with-answer.result) c.reserve_with-answer.ensures.call)

pub returns-in-Ok-clause-serial : goal.returns-in-Ok-clause-serial
returns-in-Ok-clause-serial g c =
    let made = serial-in c.seat.inside.worker c.seat.inside.tally _ _ c.seat.invariant.1.ties c.args.n (granted_in c.reserve_with-answer.result) (in-one-chapter _ _ _ _ _ _ c.reserve_with-answer.ensures.call) in
    subst (λ (s : WorkerSeat). IfOk c.reserve_with-answer.result (λ r. r.granted.serial ≡ s.tally.made)) c.seat.view_is (serial-in-hand c.seat.inside.tally.made c.reserve_with-answer.result made)
