use Rattle.std.proofs.Common.{◌≡◌, ◌+◌, ◌≤◌, ◌++◌, List, reverse, vec_len, vec_capacity}
use Rattle.std.specs.Prelude.{All}
use Rattle.std.specs.List.{AllZip}
use Rattle.rb_ledger.specs.Seats.{Shared}
use Rattle.rb_workers.specs.declared.consumer_task.ConsumerTask.{ConsumerTask}
use Rattle.rb_workers.specs.inner.ConsumerTasks.{joined_rings}
use Rattle.rb_workers.specs.inner.RingEnds.{Closes}
use Rattle.rb_workers.specs.Opened.{IsOpened, workers_of}
use Rattle.rb_workers.specs.inner.RunBuffers.{IsEmptyFor}
use Rattle.rb_workers.proofs.ring_close.close_all.Given as goal

-- the last rings are closed, from the last one on
abbrev pub invariant-loop-task : goal.invariant-loop-task
invariant-loop-task g l =
    let count = workers_of (joined_rings l.fn.rings.items l.fn.consumers.items) in
    (rings : List Shared) × (tasks : List (ConsumerTask _))
    × (l.rings.items ++ rings ≡ l.fn.rings.items) × (l.consumers.items ++ tasks ≡ l.fn.consumers.items)
    × (vec_len l.consumers ≡ vec_len l.rings) × (vec_len l.tallies ≡ vec_len l.rings)
    × (vec_len l.ended + vec_len l.rings ≤ vec_capacity l.ended)
    × All (IsEmptyFor count) l.tallies.items
    × All (IsOpened g.S.Sink.position_of count) (joined_rings l.rings.items l.consumers.items)
    × AllZip Closes (joined_rings rings tasks) (reverse l.ended.items)

abbrev pub decreases-loop-task : goal.decreases-loop-task
decreases-loop-task g l = vec_len l.consumers
