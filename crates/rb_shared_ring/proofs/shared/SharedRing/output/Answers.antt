use Rattle.std.proofs.Common.{◌≡◌, ◌∙◌, sym, subst}
use Rattle.crossbeam_queue.specs.Passes.{view}
use Rattle.rb_history.specs.Calls.{producer_now}
use Rattle.rb_ledger.specs.Roles.Role.{Worker}
use Rattle.rb_ledger.specs.Seats.{WorkerSeat, Ties}
use Rattle.rb_ledger.specs.LockedCalls.{LockedCall}
use Rattle.rb_ledger.specs.EntryRoom.{InRoom}
use Rattle.rb_ledger.proofs.WholeCalls.{in-one-chapter}
use Rattle.rb_shared_ring.specs.inner.HandPasses.{seen_with, bytes_with, cut_by}
use Rattle.rb_shared_ring.specs.SharedCalls.{OutputsInRoom, sent_by_output_in_room}
use Rattle.rb_shared_ring.proofs.RoomCalls.{output-called}
use Rattle.rb_shared_ring.proofs.SeatNumbers.{book-in, tied-low, output-fits, output-tied, keeps-hands}
use Rattle.rb_shared_ring.proofs.shared.SharedRing.output.Goals as goal

pub after_output-seat-inside-requires-clause-made : goal.after_output-seat-inside-requires-clause-made
after_output-seat-inside-requires-clause-made g c = (tied-low _ _ _ c.seat.invariant.1.book c.seat.invariant.1.ties).made

pub after_output-seat-inside-requires-clause-submitted : goal.after_output-seat-inside-requires-clause-submitted
after_output-seat-inside-requires-clause-submitted g c = (tied-low _ _ _ c.seat.invariant.1.book c.seat.invariant.1.ties).submitted

pub after_output-seat-inside-requires-clause-refused : goal.after_output-seat-inside-requires-clause-refused
after_output-seat-inside-requires-clause-refused g c = output-fits c.seat.inside.worker c.seat.inside.tally _ _ c.seat.invariant.1.ties c.args.sheet c.args.flags c.output_with-answer.result _ (in-one-chapter _ _ _ _ _ _ c.output_with-answer.ensures.call)

pub invariant_of-seat : goal.invariant_of-seat
invariant_of-seat g c =
    let e = c.output_with-answer.ensures in
    let i = c.seat.invariant in
    let ties = output-tied c.seat.inside.worker c.seat.inside.tally _ _ i.1.ties c.args.sheet c.args.flags c.output_with-answer.result _ (in-one-chapter _ _ _ _ _ _ e.call) in (
      e.same.2 ∙ i.0,
      record { idle = e.idle; book = book-in _ _ _ _ e.call; ties = subst (λ t. Ties c.seat.inside.worker t (seen_with (view c.output_with-answer.new.pass))) (sym c.after_output-seat-inside.ensures.counted) ties },
      keeps-hands _ _ _ _ _ i.2 (e.hands ∙ i.2.shows) i.2.four e.holds,
    )

pub returns-clause-call : goal.returns-clause-call
returns-clause-call g c = λ _.
    subst (λ (s : WorkerSeat). LockedCall (Worker s.worker) s.seen (seen_with (view c.output_with-answer.new.pass)) (InRoom s.room (cut_by (view c.output_with-answer.new.pass)) (λ old new. OutputsInRoom s.room (cut_by (view c.output_with-answer.new.pass)) s.worker c.args.sheet c.args.flags c.output_with-answer.result old new × (bytes_with (view c.output_with-answer.new.pass) ≡ sent_by_output_in_room s.sent (producer_now old) c.args.sheet c.output_with-answer.result)))) c.seat.view_is
    (output-called _ _ _ c.seat.invariant.1.ties.in_ring _ _ c.args.sheet c.args.flags c.output_with-answer.result _ _ c.output_with-answer.ensures.call)
