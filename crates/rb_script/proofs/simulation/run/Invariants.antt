use Rattle.std.proofs.Common.{◌≡◌, length, take}
use Rattle.rb_script.specs.Simulation.{WritesRun}
use Rattle.rb_script.proofs.simulation.run.Given as goal

abbrev pub invariant-loop-actor : goal.invariant-loop-actor
invariant-loop-actor g l = record {
  written : WritesRun l.form l.draw (take l.actor-index l.actors) l.initial.world l.world l.initial.text.items l.text.items;
  workers : length l.world.machines ≡ length l.initial.world.machines;
  rings : length l.world.rings ≡ length l.initial.world.rings;
}
