use Rattle.std.proofs.Common.{◌≡◌}
use Rattle.rb_stream_tests.proofs.worker.two_programs_over_three_contexts.Given as goal

abbrev pub invariant-loop-number : goal.invariant-loop-number
invariant-loop-number g l = l.consumer.ring ≡ l.initial.consumer.ring
