use Rattle.std.proofs.Common.{◌∙◌, None, refl, sym, subst, set}
use Rattle.std.proofs.lemmas.List.{length-set}
use Rattle.crossbeam_queue.specs.Passes.{view}
use Rattle.rb_ledger.specs.Roles.Role.{Worker}
use Rattle.rb_ledger.specs.Seats.{WorkerSeat, Ties}
use Rattle.rb_ledger.specs.LockedCalls.{LockedCall}
use Rattle.rb_ledger.specs.EntryRoom.{InRoom}
use Rattle.rb_ledger.specs.RecordEnds.{EndsAt}
use Rattle.rb_ledger.proofs.WholeCalls.{in-one-chapter}
use Rattle.rb_shared_ring.specs.inner.HandPasses.{seen_with, cut_by}
use Rattle.rb_shared_ring.proofs.SeatNumbers.{book-in, tied-low, end-tied, keeps-hands}
use Rattle.rb_shared_ring.proofs.RoomCalls.{ends-called}
use Rattle.rb_shared_ring.proofs.shared.SharedRing.settle.Goals as goal

pub after_end-seat-inside-requires : goal.after_end-seat-inside-requires
after_end-seat-inside-requires g c =
    let low = tied-low _ _ _ c.seat.invariant.1.book c.seat.invariant.1.ties in
    record { submitted = low.submitted; discarded = low.discarded }

pub invariant_of-seat : goal.invariant_of-seat
invariant_of-seat g c =
    let e = c.settle_with-notice.ensures in
    let i = c.seat.invariant in
    let ties = end-tied c.seat.inside.worker c.seat.inside.tally _ _ i.1.ties c.args.end c.args.reservation.granted c.args.flags c.settle_with-notice.result (c.in-Some.ensures.exact.0 refl).1 (in-one-chapter _ _ _ _ _ _ e.call) in (
      e.same.2 ∙ i.0,
      record { idle = e.idle; book = book-in _ _ _ _ e.call; ties = subst (λ t. Ties c.seat.inside.worker t (seen_with (view c.settle_with-notice.new.pass))) (sym c.after_end-seat-inside.ensures.counted) ties },
      keeps-hands _ _ _ _ _ i.2 (e.hands ∙ (λ k. set (i.2.shows k) (sym c.in-Some.ensures.hand k) None)) (length-set c.seat.inside.hands c.in-Some.hand None ∙ i.2.four) e.holds,
    )

pub returns-clause-call : goal.returns-clause-call
returns-clause-call g c =
    subst (λ (s : WorkerSeat). LockedCall (Worker s.worker) s.seen (seen_with (view c.settle_with-notice.new.pass)) (InRoom s.room (cut_by (view c.settle_with-notice.new.pass)) (EndsAt c.args.end c.args.reservation.granted c.args.flags c.settle_with-notice.result))) c.seat.view_is
    (ends-called _ _ _ c.seat.invariant.1.ties.in_ring _ _ c.args.end c.args.reservation.granted c.args.flags c.settle_with-notice.result c.settle_with-notice.ensures.call)
