use Rattle.std.proofs.Common.{◌≡◌}
use Rattle.rb_interp.specs.declared.step.Phase.TheVariants.{Ready}
use Rattle.rb_run_tests.proofs.programs.executes.Given as goal

abbrev pub invariant-loop-count : goal.invariant-loop-count
invariant-loop-count g l = l.machine.phase ≡ Ready
