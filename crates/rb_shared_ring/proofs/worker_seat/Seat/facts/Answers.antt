use Rattle.std.proofs.Common.{subst}
use Rattle.rb_ledger.specs.Seats.{WorkerSeat, IsBook, Ties}
use Rattle.rb_ledger.proofs.Settled.{settles-most}
use Rattle.rb_shared_ring.proofs.worker_seat.Seat.facts.Goals as goal

pub returns-clause-ties : goal.returns-clause-ties
returns-clause-ties c = subst (λ (s : WorkerSeat). Ties s.worker s.tally s.seen) c.self.view_is c.self.invariant.1.ties

pub returns-clause-within : goal.returns-clause-within
returns-clause-within c = settles-most _ _ _ (subst (λ (s : WorkerSeat). IsBook s.seen) c.self.view_is c.self.invariant.1.book) (subst (λ (s : WorkerSeat). Ties s.worker s.tally s.seen) c.self.view_is c.self.invariant.1.ties)
