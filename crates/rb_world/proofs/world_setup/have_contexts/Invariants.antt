use Rattle.std.proofs.Common.{take}
use Rattle.rb_world.specs.OpenedWorlds.{HaveContexts}
use Rattle.rb_world.proofs.world_setup.have_contexts.Given as goal

abbrev pub invariant-loop-worker : goal.invariant-loop-worker
invariant-loop-worker l = HaveContexts (take l.worker-index l.workers)
