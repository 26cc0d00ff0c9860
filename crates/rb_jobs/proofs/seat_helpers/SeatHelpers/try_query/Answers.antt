use Rattle.std.proofs.Common.{◌<◌, ap, arith, rules, length, refl}
use Rattle.rb_jobs.specs.SeatHelpers.{AtSeats}
use Rattle.rb_jobs.proofs.OneSeat.{is_seat, seat_there, stays_at, at_seat, queried_at}
use Rattle.rb_jobs.proofs.seat_helpers.SeatHelpers.try_query.Goals as goal

pub index_mut-requires : goal.index_mut-requires
index_mut-requires g c =
    let below : c.args.ring < length c.self.inside.rings.now = search rules in
    let seat = is_seat _ _ c.args.ring c.self.invariant.0 below in omega (arith, seat, c.self.inside.seats.ok.0)

pub query-requires : goal.query-requires
query-requires g c =
    let below : c.args.ring < length c.self.inside.rings.now = search rules in
    record { ring = λ _. (seat_there _ _ _ _ _ c.self.invariant.0 below c.index_mut.ensures.value).1 }

pub unreachable-requires : goal.unreachable-requires
unreachable-requires g c =
    let below : c.args.ring < length c.self.inside.rings.now = search rules in
    c.in-Err.ensures.foreign.0 refl (seat_there _ _ _ _ _ c.self.invariant.0 below c.index_mut.ensures.value).0

pub invariant_of-self : goal.invariant_of-self
invariant_of-self g c = (stays_at _ _ _ _ _ c.self.invariant.0 c.index_mut.ensures.value c.query.ensures.seat, c.self.invariant.1, c.self.invariant.2, c.self.invariant.3)

pub returns-clause-seat : goal.returns-clause-seat
returns-clause-seat g c =
    let below : c.args.ring < length c.self.inside.rings.now = search rules in
    at_seat _ c.args.self.now _ _ _ _ _ (ap (λ (h : AtSeats). h.seats) c.self.view_is) c.self.invariant.0 below c.index_mut.ensures.value
    (queried_at c.args.what c.in-Ok.answer _ _ c.query.ensures.seat c.query.ensures.released c.query.ensures.tally c.query.ensures.hands c.query.ensures.sent c.in-Ok.ensures.call)
