-- What a caller must know about each ring before a run (own).
use Rattle.std.specs.Prelude.{◌≡◌, ℕ, List, [], ◌∷◌, All, length, map}
use Rattle.rb_history.specs.WorkerCounts.{numbers_below}
use Rattle.rb_ledger.specs.ChapterSeats.{ChapterConsumerSeat}
use Rattle.rb_consumer.specs.Keepers.{KeeperValue, handed_in}
use Rattle.rb_jobs.specs.SeatHelpers.{IsAt}
use Rattle.rb_workers.specs.declared.opened.Opened.{Opened}
use Rattle.rb_workers.specs.Sink.{SinkItem, GetsTaken}

-- the keeper fits the consumer's ring: the chapter that it hands in next has no entries, since those that one of its
-- turns lent are cleared first, and it has the ring's room and number of workers
pub record IsKeeperFor (consumer : ChapterConsumerSeat) (k : KeeperValue) : Type 0 where
  pub no_entries : (handed_in k).entries ≡ []
  pub room_same : (handed_in k).room ≡ consumer.room
  pub workers_same : (handed_in k).opening.setup.workers ≡ consumer.seen.setup.workers

-- there is one seat for each worker, in the order of the numbers; the seats, the consumer and the keeper belong to the
-- ring; and the sink's position is the consumer's
pub record IsOpened {S : Type 0} (position : S → ℕ) (count : ℕ) (o : Opened S) : Type 0 where
  pub numbered : map (λ s. s.worker) o.seats.items ≡ numbers_below count
  pub seats_at : All (IsAt o.ring) o.seats.items
  pub as_many : o.consumer.seen.setup.workers ≡ count
  pub consumer_tag : o.consumer.tag ≡ o.ring.tag
  pub consumer_at : o.consumer.ring ≡ o.ring.ring
  pub keeper_fits : IsKeeperFor o.consumer o.keeper
  pub sink_follows : position o.sink ≡ o.consumer.position

-- the number of workers: 0 if there is no ring
abbrev pub workers_of : {S : Type 0} → List (Opened S) → ℕ
workers_of [] = 0
workers_of (o ∷ more) = length o.seats.items

-- all rings are opened, for the same workers
abbrev pub AreOpened : {S : Type 0} → (S → ℕ) → List (Opened S) → Type 0
AreOpened position opened = All (IsOpened position (workers_of opened)) opened

-- between two states of a ring's consumer and sink, the sink was given exactly what the consumer took and handed out
abbrev pub SinkGetsTaken : {S : Type 0} → (S → SinkItem → S → Type 0) → Opened S → Opened S → Type 0
SinkGetsTaken takes old new = GetsTaken takes old.consumer new.consumer new.consumer.seen.history old.sink new.sink
