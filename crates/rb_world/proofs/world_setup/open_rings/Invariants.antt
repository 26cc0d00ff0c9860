use Rattle.std.proofs.Common.{◌≡◌, take}
use Rattle.rb_world.specs.OpenedWorlds.{opened_rings}
use Rattle.rb_world.proofs.world_setup.open_rings.Given as goal

abbrev pub invariant-loop-number : goal.invariant-loop-number
invariant-loop-number l = l.opened.items ≡ opened_rings l.workers 0 (take l.number l.rings)
