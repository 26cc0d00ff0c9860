use Rattle.std.specs.Prelude.{◌≡◌, ℕ, ◌<◌, ◌≤◌, take, length, vec_len, vec_capacity, slice_index_or}
use Rattle.rb_workers.specs.inner.WorkerRuns.{IsOneMore}
use Rattle.rb_workers.proofs.distribution.distribute_ring.Given as goal

abbrev pub invariant-loop-seat : goal.invariant-loop-seat
invariant-loop-seat l =
    (l.at ≡ vec_len l.returned_seats) × (l.at ≤ length l.initial.workers) × (l.returned_seats.items ≡ take l.at l.initial.returned_seats.items) × (vec_capacity l.returned_seats ≡ vec_capacity l.initial.returned_seats)
    × ((k : ℕ) (d : _) → k < l.at → slice_index_or l.workers k d ≡ slice_index_or l.initial.workers k d)
    × ((k : ℕ) (d : _) (s : _) → l.at ≤ k → k < length l.initial.workers → IsOneMore (slice_index_or l.initial.workers k d) (slice_index_or l.workers k d) (slice_index_or l.initial.returned_seats.items k s))

abbrev pub decreases-loop-seat : goal.decreases-loop-seat
decreases-loop-seat l = vec_len l.returned_seats
