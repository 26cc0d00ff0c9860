use Rattle.std.proofs.Common.{◌≡◌, ◌+◌, ◌*◌, ◌<◌, ◌≤◌, ℕ, length, slice_index_or, vec_capacity, vec_len}
use Rattle.rb_waiting.proofs.plan.limits_of.Given as goal

abbrev pub invariant-loop-at : goal.invariant-loop-at
invariant-loop-at g l = record {
  room : length l.opened ≤ vec_capacity l.limits;
  many : vec_len l.limits ≡ l.at;
  limits : (k d s : ℕ) (o : _) → k < l.at
      → slice_index_or l.limits.items k d + (slice_index_or l.opened k o).consumer.seen.setup.workers * (l.contexts * slice_index_or l.sums k s) + 1 ≡ (slice_index_or l.opened k o).consumer.seen.setup.size;
}
