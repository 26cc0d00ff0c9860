use Rattle.std.proofs.Common.{◌≡◌, ◌∙◌, subst}
use Rattle.crossbeam_queue.specs.Passes.{view}
use Rattle.rb_ledger.specs.Roles.Role.{Worker}
use Rattle.rb_ledger.specs.Seats.{WorkerSeat}
use Rattle.rb_ledger.specs.LockedCalls.{LockedCall}
use Rattle.rb_ledger.specs.EntryRoom.{InRoom}
use Rattle.rb_ledger.proofs.WholeCalls.{in-one-chapter}
use Rattle.rb_shared_ring.specs.inner.HandPasses.{seen_with, cut_by}
use Rattle.rb_shared_ring.specs.SharedCalls.{Audits}
use Rattle.rb_shared_ring.proofs.RoomCalls.{audit-called}
use Rattle.rb_shared_ring.proofs.SeatNumbers.{book-in, audit-tied, audit-own, keeps-hands}
use Rattle.rb_shared_ring.proofs.shared.SharedRing.audit.Goals as goal

pub invariant_of-seat : goal.invariant_of-seat
invariant_of-seat g c =
    let e = c.audit_with.ensures in
    let i = c.seat.invariant in (
      e.same.2 ∙ i.0,
      record { idle = e.idle; book = book-in _ _ _ _ e.call; ties = audit-tied c.seat.inside.worker c.seat.inside.tally _ _ i.1.ties c.audit_with.result (in-one-chapter _ _ _ _ _ _ e.call) },
      keeps-hands _ _ _ _ _ i.2 (e.hands ∙ i.2.shows) i.2.four e.holds,
    )

pub returns-clause-own : goal.returns-clause-own
returns-clause-own g c = subst (λ (s : WorkerSeat). c.audit_with.result.own ≡ s.tally) c.seat.view_is (audit-own c.seat.inside.worker c.seat.inside.tally _ _ c.seat.invariant.1.ties c.audit_with.result (in-one-chapter _ _ _ _ _ _ c.audit_with.ensures.call))

pub returns-clause-call : goal.returns-clause-call
returns-clause-call g c =
    subst (λ (s : WorkerSeat). LockedCall (Worker s.worker) s.seen (seen_with (view c.audit_with.new.pass)) (InRoom s.room (cut_by (view c.audit_with.new.pass)) (Audits s.worker c.audit_with.result))) c.seat.view_is
    (audit-called _ _ _ c.seat.invariant.1.ties.in_ring _ _ c.audit_with.result c.audit_with.ensures.call)
