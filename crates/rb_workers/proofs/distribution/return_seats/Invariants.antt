use Rattle.std.specs.Prelude.{◌≡◌, ℕ, ◌<◌, ◌≤◌, ◌++◌, drop, length, slice_index_or}
use Rattle.rb_workers.specs.SeatRows.{worker_column}
use Rattle.rb_workers.specs.inner.ConsumerTasks.{returned_rows}
use Rattle.rb_workers.proofs.Deals.{AreReturnedFrom}
use Rattle.rb_workers.proofs.distribution.return_seats.Given as goal

abbrev pub invariant-loop-at : goal.invariant-loop-at
invariant-loop-at g l =
    (l.at ≤ length l.initial.consumers)
    × AreReturnedFrom l.at (length l.initial.workers) l.initial.consumers l.consumers
    × ((k : ℕ) (d : _) → k < length l.initial.workers →
    ((slice_index_or l.initial.workers k d).number ≡ (slice_index_or l.workers k d).number)
    × ((slice_index_or l.initial.workers k d).short ≡ (slice_index_or l.workers k d).short)
    × ((slice_index_or l.initial.workers k d).answers ≡ (slice_index_or l.workers k d).answers)
    × ((slice_index_or l.workers k d).seats.items ++ worker_column k (returned_rows (drop l.at l.consumers)) ≡ (slice_index_or l.initial.workers k d).seats.items)
    × (length (slice_index_or l.workers k d).seats.items ≡ l.at))

abbrev pub decreases-loop-at : goal.decreases-loop-at
decreases-loop-at g l = l.at
