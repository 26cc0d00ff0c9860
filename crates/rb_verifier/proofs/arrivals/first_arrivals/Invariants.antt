use Rattle.rb_verifier.specs.inner.Sweep.{AreFirstArrivals}
use Rattle.rb_verifier.proofs.arrivals.first_arrivals.Given as goal

abbrev pub invariant-loop-unit : goal.invariant-loop-unit
invariant-loop-unit l = AreFirstArrivals l._unit l.arrivals.items
