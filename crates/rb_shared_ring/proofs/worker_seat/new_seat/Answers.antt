use Rattle.rb_ledger.proofs.HandLock.{forks}
use Rattle.rb_shared_ring.proofs.worker_seat.new_seat.Goals as goal

pub another-requires-clause-rule : goal.another-requires-clause-rule
another-requires-clause-rule c = forks _ _
