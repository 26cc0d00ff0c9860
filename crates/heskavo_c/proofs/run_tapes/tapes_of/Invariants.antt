use Rattle.std.proofs.Common.{◌≤◌, length}
use Rattle.heskavo_c.specs.Runs.{LeavesTapes}
use Rattle.heskavo_c.proofs.run_tapes.tapes_of.Given as goal

abbrev pub invariant-loop-ring : goal.invariant-loop-ring
invariant-loop-ring l = (l.ring ≤ length l.world.rings) × LeavesTapes l.world l.size l.ring l.bytes.items l.lengths.items
