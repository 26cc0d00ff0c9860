use Rattle.std.proofs.Common.{◌≡◌, drop}
use Rattle.rb_ledger.specs.Seats.{are_tagged}
use Rattle.rb_shared_ring.proofs.closed_ring.are_all_tagged.Given as goal

abbrev pub invariant-loop-seat : goal.invariant-loop-seat
invariant-loop-seat l = are_tagged l.tag l.seats ≡ are_tagged l.tag (drop l.seat-index l.seats)
