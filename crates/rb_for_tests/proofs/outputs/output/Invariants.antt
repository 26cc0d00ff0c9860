use Rattle.std.proofs.Common.{◌≡◌}
use Rattle.rb_ledger.specs.Seats.{IsSameSeat}
use Rattle.rb_for_tests.proofs.outputs.output.Given as goal

abbrev pub invariant-loop : goal.invariant-loop
invariant-loop g l = record {
  same : IsSameSeat l.fn.seat l.seat;
  made : l.seat.tally.made ≡ l.fn.seat.tally.made;
  submitted : l.seat.tally.submitted ≡ l.fn.seat.tally.submitted;
  discarded : l.seat.tally.discarded ≡ l.fn.seat.tally.discarded;
}
