use Rattle.rb_dealing.specs.inner.Lanes.{LaneRan}
use Rattle.rb_dealing.proofs.lane.Lane.work.Given as goal

abbrev pub invariant-loop : goal.invariant-loop
invariant-loop g l = LaneRan g.W.Work.ready g.W.Work.runs l.fn.self l.self
