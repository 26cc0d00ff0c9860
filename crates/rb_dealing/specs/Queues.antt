-- The queues between a reader and its lanes (own).
use Rattle.std.specs.Prelude.{◌≡◌, ℕ, ◌<◌, List, [], length, slice_index_or}
use Rattle.rtrb.specs.Ring.{sent, received, IsPair}
use Rattle.rb_dealing.specs.declared.lane.LaneFeed.{LaneFeed}
use Rattle.rb_dealing.specs.declared.lane.Lane.{Lane}

-- the feed is the reader's end of the lane's queue
abbrev pub IsFeedOf : {W : Type 0} → LaneFeed → Lane W → Type 0
IsFeedOf feed lane = IsPair feed.pieces lane.pieces

-- nothing was put into the lane's queue yet
abbrev pub IsEmptyQueue : {W : Type 0} → LaneFeed → Lane W → Type 0
IsEmptyQueue feed lane = (sent feed.pieces ≡ []) × (received lane.pieces ≡ [])

-- each feed belongs to the lane at the same index
abbrev pub AreFeedsOf : {W : Type 0} → List LaneFeed → List (Lane W) → Type 0
AreFeedsOf {W} feeds lanes = (length feeds ≡ length lanes) × ((k : ℕ) (d : LaneFeed) (e : Lane W) → k < length lanes → IsFeedOf (slice_index_or feeds k d) (slice_index_or lanes k e))

abbrev pub AreEmptyQueues : {W : Type 0} → List LaneFeed → List (Lane W) → Type 0
AreEmptyQueues {W} feeds lanes = (k : ℕ) (d : LaneFeed) (e : Lane W) → k < length lanes → IsEmptyQueue (slice_index_or feeds k d) (slice_index_or lanes k e)
