use Rattle.std.proofs.Common.{◌≡◌, ◌≤◌, ◌+◌}
use Rattle.std.specs.Prelude.{true}
use Rattle.rb_jobs.specs.SeatHelpers.{IsAt}
use Rattle.rb_run_tests.proofs.waits.shortest_at_chapter.Given as goal

abbrev pub invariant-loop-done : goal.invariant-loop-done
invariant-loop-done g l = record {
  room : l.count ≤ g.H.Helpers.room_of l.helpers + l.done;
  ring : g.H.Helpers.has_ring l.helpers 0 ≡ true;
  seat : IsAt l.ring l.seat;
}
