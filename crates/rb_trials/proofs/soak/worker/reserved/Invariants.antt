use Rattle.rb_ledger.specs.Seats.{IsSameSeat}
use Rattle.rb_trials.proofs.soak.worker.reserved.Given as goal

abbrev pub invariant-loop : goal.invariant-loop
invariant-loop g l = IsSameSeat l.fn.seat l.seat
