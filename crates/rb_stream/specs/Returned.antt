-- Rings that are returned from a run (own).
use Rattle.std.specs.Prelude.{◌≡◌, ℕ, List, map}
use Rattle.std.specs.List.{AllZip}
use Rattle.rb_ledger.specs.Roles.{BeginsWith}
use Rattle.rb_ledger.specs.Seats.{IsSameSeat}
use Rattle.rb_shared_ring.specs.SharedSeats.{IsSameChapterConsumer}
use Rattle.rb_jobs.specs.SeatLaws.{SeatBegins}
use Rattle.rb_workers.specs.declared.opened.Opened.{Opened}
use Rattle.rb_workers.specs.Opened.{AreOpened, SinkGetsTaken, workers_of}
use Rattle.rb_workers.specs.SeatRows.{seat_rows}
use Rattle.rb_workers.specs.Sink.{SinkItem}

-- Everything was returned in its place, and may be run again: the same rings, seats and consumers. What each seat and
-- each consumer has seen begins with what it had seen, and each sink was given exactly what its ring's consumer took
-- and handed out.
pub record AreReturned {S : Type 0} (position : S → ℕ) (takes : S → SinkItem → S → Type 0) (opened back : List (Opened S)) : Type 0 where
  pub rings_same : map (λ o. o.ring) back ≡ map (λ o. o.ring) opened
  pub seats_same : AllZip (AllZip IsSameSeat) (seat_rows opened) (seat_rows back)
  pub seats_begin : AllZip (AllZip SeatBegins) (seat_rows opened) (seat_rows back)
  pub consumers_same : AllZip (λ o b. IsSameChapterConsumer o.consumer b.consumer) opened back
  pub consumers_begin : AllZip (λ o b. BeginsWith b.consumer.seen o.consumer.seen) opened back
  pub sinks_given : AllZip (SinkGetsTaken takes) opened back
  pub runs_again : AreOpened position back
  pub workers_same : workers_of back ≡ workers_of opened
