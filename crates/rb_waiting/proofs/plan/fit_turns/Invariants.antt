use Rattle.rb_waiting.specs.inner.Sums.{AreLongest}
use Rattle.rb_waiting.proofs.Sums.{FitsBefore}
use Rattle.rb_waiting.proofs.plan.fit_turns.Given as goal

abbrev pub invariant-loop-at : goal.invariant-loop-at
invariant-loop-at g l = record { fits : FitsBefore l.opened l.sums l.at l.contexts; longest : AreLongest l.opened l.sums l.at l.contexts }
