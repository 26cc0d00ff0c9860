use Rattle.std.proofs.Common.{◌≡◌, ◌<◌, ◌≤◌, ℕ, length, slice_index_or}
use Rattle.rb_stream_worker.specs.Results.{raised}
use Rattle.rb_stream.proofs.totals.add_results.Given as goal

abbrev pub invariant-loop-at : goal.invariant-loop-at
invariant-loop-at l =
    (length l.total.below.items ≡ length l.fn.total.below.items) × (l.total.other ≡ l.fn.total.other)
    × ((r : ℕ) → l.at ≤ r → slice_index_or l.total.below.items r 0 ≡ slice_index_or l.fn.total.below.items r 0)
    × ((r : ℕ) → r < l.at → slice_index_or l.total.below.items r 0 ≡ raised (slice_index_or l.fn.total.below.items r 0) (slice_index_or l.own.below.items r 0))
