use Rattle.std.specs.Prelude.{◌≡◌, ℕ, ◌<◌, ◌≤◌, vec_len, vec_capacity, slice_index_or}
use Rattle.rb_workers.specs.inner.WorkerRuns.{IsOneMore}
use Rattle.rb_workers.proofs.distribution.return_ring.Given as goal

abbrev pub invariant-loop-at : goal.invariant-loop-at
invariant-loop-at l =
    (vec_len l.returned_seats ≡ l.at) × (vec_capacity l.returned_seats ≡ vec_capacity l.initial.returned_seats)
    × ((k : ℕ) (d : _) → l.at ≤ k → slice_index_or l.workers k d ≡ slice_index_or l.initial.workers k d)
    × ((k : ℕ) (d : _) (s : _) → k < l.at → IsOneMore (slice_index_or l.workers k d) (slice_index_or l.initial.workers k d) (slice_index_or l.returned_seats.items k s))
