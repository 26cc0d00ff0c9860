-- The call of the ring that a seat made, with a weaker relation.
use Rattle.rb_history.specs.RingModel.{Ring}
use Rattle.rb_ledger.specs.Roles.Role.{Worker}
use Rattle.rb_ledger.specs.Seats.{WorkerSeat}
use Rattle.rb_ledger.proofs.EntryRoom.{called-as}
use Rattle.rb_jobs.specs.SeatCalls.{SeatCallsRing}

pub called_as : (b a : WorkerSeat) (First Second : Ring → Ring → Type 0) → ((old new : Ring) → First old new → Second old new) → SeatCallsRing First b a → SeatCallsRing Second b a
called_as b a First Second = called-as (Worker b.worker) b.seen a.seen b.room a.cut First Second
