use Rattle.std.proofs.Common.{map, take}
use Rattle.rb_stream.specs.inner.Counts.{AddsCounts}
use Rattle.rb_stream.proofs.lanes.add_up.Given as goal

abbrev pub invariant-loop-lane : goal.invariant-loop-lane
invariant-loop-lane g l = AddsCounts (map (λ lane. lane.worker.counts) (take l.lane-index l.lanes)) l.fn.total l.total
