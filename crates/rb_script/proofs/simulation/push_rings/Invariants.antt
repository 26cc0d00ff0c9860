use Rattle.std.proofs.Common.{◌≡◌, ◌≤◌, ◌++◌, length}
use Rattle.rb_script.specs.Simulation.{lines_below, ring_end_of}
use Rattle.rb_script.proofs.simulation.push_rings.Given as goal

abbrev pub invariant-loop-r : goal.invariant-loop-r
invariant-loop-r l = record {
  there : l.r ≤ length l.world.rings;
  lines : l.text.items ≡ l.initial.text.items ++ lines_below (ring_end_of l.form l.world) l.r;
}
