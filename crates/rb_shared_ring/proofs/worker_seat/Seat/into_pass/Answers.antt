use Rattle.std.proofs.Common.{subst}
use Rattle.rb_ledger.specs.Seats.{WorkerSeat, Ties}
use Rattle.rb_shared_ring.proofs.worker_seat.Seat.into_pass.Goals as goal

pub returns-clause-ties : goal.returns-clause-ties
returns-clause-ties c = subst (λ (s : WorkerSeat). Ties s.worker s.tally s.seen) c.self.view_is c.self.invariant.1.ties
