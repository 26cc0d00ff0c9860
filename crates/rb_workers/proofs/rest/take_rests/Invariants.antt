use Rattle.std.proofs.Common.{◌≡◌, ◌<◌, ◌≤◌, ℕ, slice_index_or}
use Rattle.rb_workers.specs.inner.ConsumerTasks.{TakesRest, joined_ring}
use Rattle.rb_workers.proofs.rest.take_rests.Given as goal

abbrev pub invariant-loop-at : goal.invariant-loop-at
invariant-loop-at g l =
    ((k : ℕ) (d : _) → l.at ≤ k → slice_index_or l.consumers k d ≡ slice_index_or l.fn.consumers k d)
    × ((k : ℕ) (d : _) (r : _) → k < l.at →
    TakesRest g.S.Sink.position_of g.S.Sink.takes (joined_ring (slice_index_or l.rings k r) (slice_index_or l.fn.consumers k d)) (joined_ring (slice_index_or l.rings k r) (slice_index_or l.consumers k d)))
