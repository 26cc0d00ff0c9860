use Rattle.std.proofs.Common.{◌≡◌, drop}
use Rattle.rb_ledger.specs.Seats.{has_seat}
use Rattle.rb_shared_ring.proofs.closed_ring.has_seat_of.Given as goal

abbrev pub invariant-loop-seat : goal.invariant-loop-seat
invariant-loop-seat l = has_seat l.worker l.seats ≡ has_seat l.worker (drop l.seat-index l.seats)
