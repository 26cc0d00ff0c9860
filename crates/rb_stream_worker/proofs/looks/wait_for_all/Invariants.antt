use Rattle.std.proofs.Common.{◌≡◌, ◌<◌, ◌≤◌, ℕ, slice_index_or}
use Rattle.rb_stream_worker.specs.Turns.{FindsRoom}
use Rattle.rb_stream_worker.proofs.looks.wait_for_all.Given as goal

abbrev pub invariant-loop-at : goal.invariant-loop-at
invariant-loop-at g l = record {
  later : (k : ℕ) (b : _) → l.at ≤ k → slice_index_or l.seats k b ≡ slice_index_or l.fn.seats k b;
  found : (k d : ℕ) (b : _) (a : _) → k < l.at → FindsRoom (slice_index_or l.limits k d) (slice_index_or l.fn.seats k b) (slice_index_or l.seats k a);
}
