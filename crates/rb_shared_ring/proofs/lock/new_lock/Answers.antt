use Rattle.rb_ledger.proofs.HandLock.{begins}
use Rattle.rb_shared_ring.proofs.lock.new_lock.Goals as goal

pub ruled-requires-clause-rule : goal.ruled-requires-clause-rule
ruled-requires-clause-rule c = begins
