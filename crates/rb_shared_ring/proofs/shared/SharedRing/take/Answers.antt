use Rattle.std.proofs.Common.{◌∙◌, ap, sym, subst, arith, length}
use Rattle.crossbeam_queue.specs.Passes.{view}
use Rattle.rb_ledger.specs.Roles.Role.{Consumer}
use Rattle.rb_ledger.specs.LockedCalls.{LockedCall, TakesAt, IsTakenAt}
use Rattle.rb_ledger.specs.EntryRoom.{InRoomBehind}
use Rattle.rb_ledger.specs.ChapterSeats.{ChapterConsumerSeat, entries_out}
use Rattle.rb_shared_ring.specs.inner.HandPasses.{seen_with}
use Rattle.rb_shared_ring.proofs.SeatNumbers.{book-in}
use Rattle.rb_shared_ring.proofs.TakenNumbers.{take-called, take-counts, take-stood, keeps-after, counts-after}
use Rattle.rb_shared_ring.proofs.shared.SharedRing.take.Goals as goal

pub invariant_of-seat : goal.invariant_of-seat
invariant_of-seat g c =
    let e = c.take_with-answer.ensures in
    let i = c.seat.invariant in
    let seat = c.seat.inside in
    let n = take-counts seat.consumed seat.skipped seat.position _ _ i.2.ties i.2.spaced _ _ c.take_with-answer.result e.call in (
      e.same.2 ∙ i.0,
      keeps-after _ _ _ _ _ _ i.1 e.idle (book-in _ _ _ _ e.call) n.setup_same e.room seat.chapters (i.1.chapters_are ∙ ap length (sym e.chapters)),
      counts-after _ _ _ _ _ _ _ _ _ _ _ n c.moves_by-moves.ensures.events c.moves_by-moves.ensures.skips c.moves_by-moves.ensures.span,
    )

pub overflow_add-seat-3 : goal.overflow_add-seat-3
overflow_add-seat-3 g c =
    let i = c.seat.invariant in
    let seat = c.seat.inside in
    let n = take-counts seat.consumed seat.skipped seat.position _ _ i.2.ties i.2.spaced _ _ c.take_with-answer.result c.take_with-answer.ensures.call in
    omega (arith, n.position_low, c.moves_by-moves.ensures.span)

pub returns-clause-place : goal.returns-clause-place
returns-clause-place g c =
    let i = c.seat.invariant in
    let seat = c.seat.inside in
    subst (λ (s : ChapterConsumerSeat). IsTakenAt s.position c.take_with-answer.result) c.seat.view_is (take-stood seat.consumed seat.skipped seat.position _ _ i.2.ties i.2.spaced _ _ c.take_with-answer.result c.take_with-answer.ensures.call)

pub returns-clause-call : goal.returns-clause-call
returns-clause-call g c =
    subst (λ (s : ChapterConsumerSeat). LockedCall Consumer s.seen (seen_with (view c.take_with-answer.new.pass)) (InRoomBehind s.room (entries_out s) (TakesAt c.take_with-answer.result))) c.seat.view_is
    (take-called _ _ _ _ c.take_with-answer.result c.take_with-answer.ensures.call)
