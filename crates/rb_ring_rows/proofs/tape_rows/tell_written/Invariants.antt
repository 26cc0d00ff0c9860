use Rattle.std.proofs.Common.{◌≡◌, None}
use Rattle.rb_ring_rows.proofs.tape_rows.tell_written.Given as goal

abbrev pub invariant-loop-one : goal.invariant-loop-one
invariant-loop-one l = (l.tape.size ≡ l.size) × (l.tape.unfinished ≡ None)
