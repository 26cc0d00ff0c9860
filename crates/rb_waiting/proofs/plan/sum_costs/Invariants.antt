use Rattle.std.proofs.Common.{take}
use Rattle.rb_waiting.specs.inner.Sums.{AreSums}
use Rattle.rb_waiting.proofs.plan.sum_costs.Given as goal

abbrev pub invariant-loop-program : goal.invariant-loop-program
invariant-loop-program l = AreSums (take l.program-index l.programs) l.rings l.sums.items
