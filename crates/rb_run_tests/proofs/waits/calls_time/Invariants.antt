use Rattle.rb_jobs.specs.SeatHelpers.{IsAt}
use Rattle.rb_run_tests.proofs.waits.calls_time.Given as goal

abbrev pub invariant-loop-tried : goal.invariant-loop-tried
invariant-loop-tried g l = IsAt l.ring l.seat
