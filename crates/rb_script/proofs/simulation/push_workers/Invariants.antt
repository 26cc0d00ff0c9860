use Rattle.std.proofs.Common.{◌≡◌, ◌≤◌, ◌++◌, length}
use Rattle.rb_script.specs.Simulation.{lines_below, worker_line}
use Rattle.rb_script.proofs.simulation.push_workers.Given as goal

abbrev pub invariant-loop-w : goal.invariant-loop-w
invariant-loop-w l = record {
  there : l.w ≤ length l.world.machines;
  lines : l.text.items ≡ l.initial.text.items ++ lines_below (worker_line l.form l.world) l.w;
}
