use Rattle.std.proofs.Common.{take}
use Rattle.rb_world.specs.OpenedWorlds.{HaveRooms}
use Rattle.rb_world.proofs.world_setup.have_rooms.Given as goal

abbrev pub invariant-loop-setup : goal.invariant-loop-setup
invariant-loop-setup l = HaveRooms (take l.setup-index l.rings)
