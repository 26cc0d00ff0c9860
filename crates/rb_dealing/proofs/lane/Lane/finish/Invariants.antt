use Rattle.std.proofs.Common.{◌≡◌, ◌+◌, ◌++◌, [], length}
use Rattle.rtrb.specs.Ring.{sent, received, known_items}
use Rattle.rb_dealing.specs.inner.Feeds.{GetsContexts}
use Rattle.rb_dealing.specs.inner.Lanes.{LaneRan}
use Rattle.rb_dealing.proofs.lane.Lane.finish.Given as goal

abbrev pub invariant-loop : goal.invariant-loop
invariant-loop g l =
    LaneRan g.W.Work.ready g.W.Work.runs l.fn.self l.self × GetsContexts l.fn.feed [] l.feed
    × (received l.self.pieces ++ known_items l.self.pieces ≡ sent l.feed.pieces) × (length (known_items l.self.pieces) + l.counter ≡ l.left)
    × (sent l.feed.pieces ≡ sent l.fn.feed.pieces)
