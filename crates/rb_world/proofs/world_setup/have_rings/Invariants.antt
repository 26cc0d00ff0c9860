use Rattle.std.proofs.Common.{take}
use Rattle.std.specs.Prelude.{◌≤◌, All}
use Rattle.rb_world.proofs.world_setup.have_rings.Given as goal

abbrev pub invariant-loop-worker : goal.invariant-loop-worker
invariant-loop-worker l = All (λ x. x.program.now.rings ≤ l.rings) (take l.worker-index l.workers)
