use Rattle.std.proofs.Common.{◌+◌, ◌*◌, length}
use Rattle.rb_program.specs.inner.Reach.{Search, unmarked}
use Rattle.rb_program.proofs.reach.reached_units.Given as goal

abbrev pub invariant-loop-unit : goal.invariant-loop-unit
invariant-loop-unit l = Search l.program l.marks.items l.waiting.items

abbrev pub decreases-loop-unit : goal.decreases-loop-unit
decreases-loop-unit l = length l.waiting.items + 2 * unmarked l.marks.items
