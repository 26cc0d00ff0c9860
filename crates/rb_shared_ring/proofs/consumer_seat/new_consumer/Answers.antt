use Rattle.rb_ledger.proofs.HandLock.{forks}
use Rattle.rb_shared_ring.proofs.consumer_seat.new_consumer.Goals as goal

pub another-requires-clause-rule : goal.another-requires-clause-rule
another-requires-clause-rule c = forks _ _
