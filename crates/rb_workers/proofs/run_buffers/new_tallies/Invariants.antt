use Rattle.std.proofs.Common.{◌≡◌, ◌≤◌, vec_len, vec_capacity}
use Rattle.std.specs.Prelude.{All}
use Rattle.rb_workers.specs.inner.RunBuffers.{IsEmptyFor}
use Rattle.rb_workers.proofs.run_buffers.new_tallies.Given as goal

abbrev pub invariant-loop : goal.invariant-loop
invariant-loop l = (vec_len l.rows ≡ l.counter) × (l.rings ≤ vec_capacity l.rows) × All (IsEmptyFor l.count) l.rows.items
