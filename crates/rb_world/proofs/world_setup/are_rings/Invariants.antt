use Rattle.std.proofs.Common.{take}
use Rattle.rb_world.specs.OpenedWorlds.{AreRings}
use Rattle.rb_world.proofs.world_setup.are_rings.Given as goal

abbrev pub invariant-loop-setup : goal.invariant-loop-setup
invariant-loop-setup l = AreRings (take l.setup-index l.rings)
