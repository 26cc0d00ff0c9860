use Rattle.std.proofs.Common.{refl, subst}
use Rattle.std.specs.Prelude.{All}
use Rattle.std.proofs.lemmas.List.{take_all}
use Rattle.std.proofs.lemmas.List.Elements.{All-more}
use Rattle.rb_history.specs.RingModel.{IsRingSize}
use Rattle.rb_engine.proofs.engine.are_sizes.Goals as goal

pub loop-size-preserved : goal.loop-size-preserved
loop-size-preserved c = All-more IsRingSize c.args.sizes.now c.loop-size.size-index 0 c.loop-size-test.true c.loop-size.invariant (c.is_size.ensures.test.0 c.if-not-is_size.false)

pub returns : goal.returns
returns c = ((λ t. subst (All IsRingSize) (take_all c.loop-size.size-index c.args.sizes.now c.loop-size-test.false) c.loop-size.invariant), λ all. refl)
