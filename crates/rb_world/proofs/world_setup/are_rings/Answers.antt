use Rattle.std.proofs.Common.{refl}
use Rattle.rb_world.specs.OpenedWorlds.{IsRingSetup}
use Rattle.rb_world.proofs.ListSteps.{all-more, all-done}
use Rattle.rb_world.proofs.world_setup.are_rings.Goals as goal

pub loop-setup-preserved : goal.loop-setup-preserved
loop-setup-preserved c = all-more IsRingSetup c.args.rings.now c.loop-setup.setup-index _ c.loop-setup-test.true (c.is_ring.ensures.0 c.if-not-is_ring.false) c.loop-setup.invariant

pub returns : goal.returns
returns c = ((λ t. all-done IsRingSetup c.args.rings.now c.loop-setup.setup-index c.loop-setup-test.false c.loop-setup.invariant), λ all. refl)
