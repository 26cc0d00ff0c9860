use Rattle.std.proofs.Common.{take}
use Rattle.std.specs.List.{AllZip}
use Rattle.rb_world.specs.OpenedWorlds.{IsStarted}
use Rattle.rb_world.proofs.world_setup.start_machines.Given as goal

abbrev pub invariant-loop-worker : goal.invariant-loop-worker
invariant-loop-worker l = AllZip IsStarted (take l.worker-index l.workers) l.machines.items
