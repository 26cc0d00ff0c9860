-- The effect of a run on lanes.
use Rattle.std.specs.Prelude.{◌≡◌, ℕ, List, ◌++◌}
use Rattle.rtrb.specs.Ring.{sent, received, SameConsumer}
use Rattle.rb_dealing.specs.inner.Feeds.{queued}
use Rattle.rb_dealing.specs.declared.lane.LaneFeed.{LaneFeed}
use Rattle.rb_dealing.specs.declared.lane.Lane.{Lane}

module _ {W : Type 0} (ready : W → Type 0) (runs : W → List (List ℕ) → W → Type 0) where
  -- the lane took contexts from its queue, and its worker ran exactly these, in order
  pub record LaneRan (old new : Lane W) : Type 0 where
    pub contexts : List (List ℕ)
    pub queue_same : SameConsumer old.pieces new.pieces
    pub taken_are : queued (received new.pieces) ≡ queued (received old.pieces) ++ contexts
    pub ran : runs old.worker contexts new.worker
    pub ready_still : ready new.worker

  -- the lane took everything from its queue, whose other end this is, and its worker ran exactly these contexts
  pub record LaneFinished (feed : LaneFeed) (old new : Lane W) : Type 0 where
    pub lane : LaneRan old new
    pub all_taken : queued (received new.pieces) ≡ queued (sent feed.pieces)
