use Rattle.std.proofs.Common.{ap, arith}
use Rattle.rb_jobs.specs.SeatHelpers.{AtSeats}
use Rattle.rb_jobs.proofs.OneSeat.{is_seat, seat_there, stays_at, at_seat, at_no_ring, at_own_ring, ended_at, tallied, unchanged}
use Rattle.rb_jobs.proofs.seat_helpers.SeatHelpers.try_give_back.Goals as goal

pub returns-then-at-self-clause-seat : goal.returns-then-at-self-clause-seat
returns-then-at-self-clause-seat g c = at_no_ring _ c.args.self.now _ _ _ (ap (λ (h : AtSeats). h.seats) c.self.view_is) c.self.invariant.0 (omega (arith, c.if-at-self.true))

pub index_mut-requires : goal.index_mut-requires
index_mut-requires g c = let below = is_seat _ _ c.args.ring c.self.invariant.0 (omega (arith, c.if-at-self.false)) in omega (arith, below, c.self.inside.seats.ok.0)

pub settle-requires : goal.settle-requires
settle-requires g c = record { ring = λ same. (seat_there _ _ _ _ _ c.self.invariant.0 (omega (arith, c.if-at-self.false)) c.index_mut.ensures.value).1 }

pub invariant_of-self : goal.invariant_of-self
invariant_of-self g c = (stays_at _ _ _ _ _ c.self.invariant.0 c.index_mut.ensures.value c.settle.ensures.seat, c.self.invariant.1, c.self.invariant.2, c.self.invariant.3)

pub returns-clause-seat : goal.returns-clause-seat
returns-clause-seat g c =
    let are = ap (λ (h : AtSeats). h.seats) c.self.view_is in
    let there = seat_there _ _ _ _ _ c.self.invariant.0 (omega (arith, c.if-at-self.false)) c.index_mut.ensures.value in
    let e = c.settle.ensures in
    let ended = ended_at c.args.end _ c.args.reservation c.args.flags c.settle.result _ _ there.0 e.seat e.released e.exact (unchanged _ _ _ _ e.handed_back) e.call (tallied _ _ _ e.tally) e.hands e.sent in
    at_own_ring _ _ _ c.args.self.now _ _ _ _ are c.self.invariant.0 (omega (arith, c.if-at-self.false))
    (at_seat _ c.args.self.now _ _ _ _ _ are c.self.invariant.0 (omega (arith, c.if-at-self.false)) c.index_mut.ensures.value ended)
