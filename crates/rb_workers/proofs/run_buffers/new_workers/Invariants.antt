use Rattle.std.specs.Prelude.{◌≡◌, ℕ, ◌<◌, ◌≤◌, vec_len, vec_capacity, slice_index_or}
use Rattle.rb_workers.specs.inner.WorkerRuns.{IsNew}
use Rattle.rb_workers.proofs.run_buffers.new_workers.Given as goal

abbrev pub invariant-loop-number : goal.invariant-loop-number
invariant-loop-number l = (vec_len l.workers ≡ l.number) × (l.count ≤ vec_capacity l.workers) × ((k : ℕ) (d : _) → k < l.number → IsNew k l.rings (slice_index_or l.workers.items k d))
