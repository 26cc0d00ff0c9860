use Rattle.std.proofs.Common.{◌≡◌, map, take}
use Rattle.rb_world.specs.declared.world_setup.WorkerSetup.{WorkerSetup}
use Rattle.rb_script.specs.declared.script.ScriptWorker.{ScriptWorker}
use Rattle.rb_script.proofs.simulation.setups_of.Given as goal

abbrev pub invariant-loop-i : goal.invariant-loop-i
invariant-loop-i l = record {
  programs_are : map (λ (x : WorkerSetup). x.program.now) l.setups.items ≡ take l.i l.programs;
  contexts_are : map (λ (x : WorkerSetup). x.context.now) l.setups.items ≡ map (λ (w : ScriptWorker). w.context.items) (take l.i l.workers);
}
