use Rattle.rb_verifier.specs.Annotation.{state_at}
use Rattle.rb_cost.specs.inner.Pass.{Progress, weight_at}
use Rattle.rb_cost.proofs.pass.most_on_path.Given as goal

abbrev pub invariant-loop-unit : goal.invariant-loop-unit
invariant-loop-unit l = Progress l.program (weight_at l.counted l.program (state_at l.states)) l.pass.before.items l.pass.most l.unit
