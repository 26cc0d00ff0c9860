use Rattle.std.proofs.Common.{◌≡◌, ◌+◌, ◌++◌, ◌≤◌, List, length, reverse, vec_len, vec_capacity}
use Rattle.rb_ledger.specs.Seats.{Shared}
use Rattle.rb_workers.specs.declared.consumer_task.ConsumerTask.{ConsumerTask}
use Rattle.rb_workers.specs.inner.ConsumerTasks.{joined_rings}
use Rattle.rb_workers.proofs.distribution.merge.Given as goal

-- the last rings are merged, from the last one on
abbrev pub invariant-loop-task : goal.invariant-loop-task
invariant-loop-task g l =
    (rings : List Shared) × (tasks : List (ConsumerTask _))
    × (l.rings.items ++ rings ≡ l.fn.rings.items) × (l.consumers.items ++ tasks ≡ l.fn.consumers.items)
    × (vec_len l.consumers ≡ vec_len l.rings) × (vec_len l.merged + vec_len l.rings ≤ vec_capacity l.merged)
    × (reverse l.merged.items ≡ joined_rings rings tasks)

abbrev pub decreases-loop-task : goal.decreases-loop-task
decreases-loop-task g l = vec_len l.consumers
