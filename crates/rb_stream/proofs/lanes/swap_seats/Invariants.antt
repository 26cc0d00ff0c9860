use Rattle.std.proofs.Common.{◌≡◌, ◌<◌, ◌≤◌, ℕ, slice_index_or}
use Rattle.rb_stream.specs.inner.Lanes.{SwapsOne}
use Rattle.rb_stream.proofs.lanes.swap_seats.Given as goal

abbrev pub invariant-loop-at : goal.invariant-loop-at
invariant-loop-at g l =
    ((k : ℕ) (d : _) → l.at ≤ k → slice_index_or l.workers k d ≡ slice_index_or l.fn.workers k d)
    × ((k : ℕ) (e : _) → l.at ≤ k → slice_index_or l.lanes k e ≡ slice_index_or l.fn.lanes k e)
    × ((k : ℕ) (d : _) (e : _) → k < l.at → SwapsOne (slice_index_or l.fn.workers k d) (slice_index_or l.workers k d) (slice_index_or l.fn.lanes k e) (slice_index_or l.lanes k e))
