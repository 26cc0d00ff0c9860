use Rattle.rb_world.specs.WorldValue.{IsThere}
use Rattle.rb_world.proofs.ListSteps.{all-more, all-done}
use Rattle.rb_world.proofs.Runs.{first-at}
use Rattle.rb_world.proofs.run.check_actors.Goals as goal

pub returns-then-not-has-clause-refused : goal.returns-then-not-has-clause-refused
returns-then-not-has-clause-refused c =
    first-at c.args.world.now c.args.actors.now c.loop-place.place _ c.loop-place.invariant c.loop-place-test.true (λ h. let t = c.has.ensures.1 h in let f = c.if-not-has.true in cc)

pub loop-place-preserved : goal.loop-place-preserved
loop-place-preserved c = all-more (IsThere c.args.world.now) c.args.actors.now c.loop-place.place _ c.loop-place-test.true (c.has.ensures.0 c.if-not-has.false) c.loop-place.invariant

pub returns-clause-known : goal.returns-clause-known
returns-clause-known c = all-done (IsThere c.args.world.now) c.args.actors.now c.loop-place.place c.loop-place-test.false c.loop-place.invariant
