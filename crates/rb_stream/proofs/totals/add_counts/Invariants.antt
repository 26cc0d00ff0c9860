use Rattle.std.proofs.Common.{◌≡◌, ◌<◌, ◌≤◌, ℕ, length, slice_index_or}
use Rattle.rb_stream.specs.inner.Counts.{AddsResults}
use Rattle.rb_stream.proofs.totals.add_counts.Given as goal

abbrev pub invariant-loop-at : goal.invariant-loop-at
invariant-loop-at l =
    (length l.total.results.items ≡ length l.fn.total.results.items)
    × (l.total.contexts ≡ l.fn.total.contexts) × (l.total.left ≡ l.fn.total.left) × (l.total.unlogged ≡ l.fn.total.unlogged) × (l.total.stopped ≡ l.fn.total.stopped)
    × ((p : ℕ) (d : _) → l.at ≤ p → slice_index_or l.total.results.items p d ≡ slice_index_or l.fn.total.results.items p d)
    × ((p : ℕ) (d : _) → p < l.at → AddsResults (slice_index_or l.own.results.items p d) (slice_index_or l.fn.total.results.items p d) (slice_index_or l.total.results.items p d))
