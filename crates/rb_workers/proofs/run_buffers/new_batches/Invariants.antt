use Rattle.std.proofs.Common.{◌≡◌, ◌≤◌, vec_len, vec_capacity}
use Rattle.rb_workers.proofs.run_buffers.new_batches.Given as goal

abbrev pub invariant-loop : goal.invariant-loop
invariant-loop l = (vec_len l.batches ≡ l.counter) × (l.rings ≤ vec_capacity l.batches)
