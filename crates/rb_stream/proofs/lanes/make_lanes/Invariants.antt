use Rattle.std.proofs.Common.{◌≡◌, ◌<◌, ℕ, length, map, slice_index_or}
use Rattle.rb_dealing.specs.Queues.{AreEmptyQueues, AreFeedsOf}
use Rattle.rb_stream_worker.specs.ContextRuns.{IsNewWorker}
use Rattle.rb_stream.proofs.lanes.make_lanes.Given as goal

abbrev pub invariant-loop-at : goal.invariant-loop-at
invariant-loop-at g l =
    AreFeedsOf l.feeds.items l.lanes.items × AreEmptyQueues l.feeds.items l.lanes.items
    × (length (map (λ lane. lane.worker) l.lanes.items) ≡ l.at)
    × ((k : ℕ) (d : _) → k < l.at → IsNewWorker k l.rings l.programs l.full l.ctx_len l.options.bound (slice_index_or (map (λ lane. lane.worker) l.lanes.items) k d))
