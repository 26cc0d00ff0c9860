use Rattle.rb_verifier.specs.inner.Sweep.{Progress}
use Rattle.rb_verifier.proofs.sweep.annotate.Given as goal

abbrev pub invariant-loop-unit : goal.invariant-loop-unit
invariant-loop-unit l = Progress l.limits l.shape l.states.items l.arrivals.items l.unit
