use Rattle.std.proofs.Common.{◌≡◌, ◌+◌, ◌<◌, ◌≤◌, ℕ, slice_index_or}
use Rattle.rb_cost.specs.Runs.{ring_cost_at}
use Rattle.rb_waiting.specs.inner.Sums.{capped}
use Rattle.rb_waiting.proofs.plan.add_cost.Given as goal

abbrev pub invariant-loop-at : goal.invariant-loop-at
invariant-loop-at l = record {
  later : (k d : ℕ) → l.at ≤ k → slice_index_or l.sums k d ≡ slice_index_or l.fn.sums k d;
  added : (k d : ℕ) → k < l.at → slice_index_or l.sums k d ≡ capped (slice_index_or l.fn.sums k d + (ring_cost_at l.cost k).bytes);
}
