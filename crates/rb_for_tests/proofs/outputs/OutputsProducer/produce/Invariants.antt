use Rattle.std.proofs.Common.{◌≤◌}
use Rattle.rb_ledger.specs.Seats.{IsSameSeat}
use Rattle.rb_for_tests.proofs.outputs.OutputsProducer.produce.Given as goal

abbrev pub invariant-loop-number : goal.invariant-loop-number
invariant-loop-number g l = record { same : IsSameSeat l.fn.seat l.seat; done : l.number ≤ l.seat.tally.submitted }
