use Rattle.std.proofs.Common.{◌≡◌}
use Rattle.rb_trials.proofs.bench.one_thread.output_rounds.Given as goal

abbrev pub invariant-loop : goal.invariant-loop
invariant-loop l = l.course.ring.state.ring.chapter.opening.setup.workers ≡ 1
