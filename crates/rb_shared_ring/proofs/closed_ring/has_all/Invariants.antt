use Rattle.rb_ledger.specs.Seats.{HasAll}
use Rattle.rb_shared_ring.proofs.closed_ring.has_all.Given as goal

abbrev pub invariant-loop-worker : goal.invariant-loop-worker
invariant-loop-worker l = HasAll l.worker l.seats
