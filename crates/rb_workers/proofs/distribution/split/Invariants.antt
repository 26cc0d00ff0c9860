use Rattle.std.specs.Prelude.{◌≡◌, ℕ, ◌<◌, ◌≤◌, List, ◌++◌, map, length, All, vec_len, vec_capacity, slice_index_or}
use Rattle.std.specs.List.{AllZip}
use Rattle.std.specs.Vec.Iter.{into_iter_items}
use Rattle.rb_workers.specs.declared.opened.Opened.{Opened}
use Rattle.rb_workers.specs.inner.ConsumerTasks.{IsSplitOff}
use Rattle.rb_workers.specs.inner.WorkerRuns.{HasSeats}
use Rattle.rb_workers.specs.SeatRows.{worker_column, seat_rows}
use Rattle.rb_workers.proofs.distribution.split.Given as goal

abbrev pub invariant-loop-one : goal.invariant-loop-one
invariant-loop-one g l =
    let rest = into_iter_items l.one-iterator in
    (done : List (Opened _)) × (done ++ rest ≡ l.fn.opened.items)
    × (vec_capacity l.rings ≡ vec_capacity l.initial.rings) × (vec_capacity l.consumers ≡ vec_capacity l.initial.consumers)
    × All (λ o. length o.seats.items ≡ length l.initial.workers) rest
    × (l.rings.items ≡ map (λ o. o.ring) done) × AllZip IsSplitOff done l.consumers.items
    × (vec_len l.batches ≡ length rest)
    × ((k : ℕ) (d : _) → k < length l.initial.workers → HasSeats (slice_index_or l.initial.workers k d) (worker_column k (seat_rows done)) (slice_index_or l.workers k d) × (vec_capacity (slice_index_or l.initial.workers k d).seats ≤ vec_capacity (slice_index_or l.workers k d).seats))
