use Rattle.std.proofs.Common.{subst}
use Rattle.rb_ledger.specs.Seats.{ConsumerTies}
use Rattle.rb_ledger.specs.ChapterSeats.{ChapterConsumerSeat}
use Rattle.rb_shared_ring.proofs.consumer_seat.ConsumerSeat.into_pass.Goals as goal

pub returns-clause-ties : goal.returns-clause-ties
returns-clause-ties c = subst (λ (s : ChapterConsumerSeat). ConsumerTies s.consumed s.skipped s.position s.seen) c.self.view_is c.self.invariant.2.ties
