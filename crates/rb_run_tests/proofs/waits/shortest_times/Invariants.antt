use Rattle.std.proofs.Common.{◌≡◌, ◌≤◌, ◌+◌}
use Rattle.std.specs.Prelude.{true}
use Rattle.rb_run_tests.proofs.waits.shortest_times.Given as goal

abbrev pub invariant-loop-done : goal.invariant-loop-done
invariant-loop-done g l = record {
  room : l.count + l.count ≤ g.H.Helpers.room_of l.helpers + l.done + l.done;
  full : g.H.Helpers.has_ring l.helpers 0 ≡ true;
  other : g.H.Helpers.has_ring l.helpers 1 ≡ true;
}
