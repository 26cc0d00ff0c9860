use Rattle.std.proofs.Common.{◌≡◌, ◌<◌, ◌≤◌, ℕ, vec_len, vec_capacity, get_or}
use Rattle.rb_stream_worker.specs.Results.{IsNewResults}
use Rattle.rb_stream_worker.proofs.stream_counts.StreamCounts.new.Given as goal

abbrev pub invariant-loop : goal.invariant-loop
invariant-loop l = record {
  room : l.programs ≤ vec_capacity l.results;
  as_many : vec_len l.results ≡ l.counter;
  zero : (p : ℕ) (d : _) → p < l.counter → IsNewResults l.bound (get_or l.results.items p d);
}
