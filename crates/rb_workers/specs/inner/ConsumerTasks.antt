-- The effect of a run on consumers and sinks.
use Rattle.std.specs.Prelude.{◌≡◌, ℕ, ◌<◌, ◌≤◌, List, [], ◌∷◌, All, IfSome, length, map, vec_capacity}
use Rattle.std.specs.FinMap.{get}
use Rattle.rb_history.specs.declared.answers.Taken.{Taken}
use Rattle.rb_ledger.specs.Roles.{BeginsWith}
use Rattle.rb_ledger.specs.Seats.{Shared, WorkerSeat}
use Rattle.rb_ledger.specs.ChapterSeats.{ChapterConsumerSeat}
use Rattle.rb_workers.specs.Sink.{SinkItem, GetsTaken, sink_position}
use Rattle.rb_workers.specs.Sink.SinkItem.{Record}
use Rattle.rb_workers.specs.declared.opened.Opened.{Opened}
use Rattle.rb_workers.specs.declared.consumer_task.ConsumerTask.{ConsumerTask}
use Rattle.rb_workers.specs.Opened.{IsKeeperFor}
use Rattle.rb_workers.specs.Rest.{IsDrained}

-- the same consumer, and what it has seen begins with what it had seen
pub record IsSameConsumer (old new : ChapterConsumerSeat) : Type 0 where
  pub tag_same : new.tag ≡ old.tag
  pub ring_same : new.ring ≡ old.ring
  pub room_same : new.room ≡ old.room
  pub begins : BeginsWith new.seen old.seen

-- the consumer and the keeper belong to the ring, and the sink's position is the consumer's
abbrev pub IsConsumerTaskOf : {S : Type 0} → (S → ℕ) → Shared → ConsumerTask S → Type 0
IsConsumerTaskOf position ring task =
    (task.consumer.tag ≡ ring.tag) × (task.consumer.ring ≡ ring.ring) × (position task.sink ≡ task.consumer.position) × IsKeeperFor task.consumer task.keeper

-- the items that these results of `take` give to a sink
abbrev pub items_among : List Taken → List SinkItem
items_among taken = map Record taken

-- if the item is a record, its position is before this one
abbrev pub IsBefore : ℕ → SinkItem → Type 0
IsBefore at item = IfSome (sink_position item) (λ p. p < at)

-- the sink was given what the consumer took and handed out; its records are before the consumer's position, and what
-- the consumer had got does not change
pub record HasGiven {S : Type 0} (takes : S → SinkItem → S → Type 0) (old new : ChapterConsumerSeat) (before after : S) : Type 0 where
  pub gets : GetsTaken takes old new new.seen.history before after
  pub moved : old.position ≤ new.position
  pub passed : All (IsBefore new.position) gets.items
  pub keeps : (p : ℕ) → p < old.position → get new.got p ≡ get old.got p

-- what a consumer's thread returns: the same consumer; the sink, which was given what the consumer took and handed out,
-- and whose position is the consumer's; and the keeper, which still fits the ring
abbrev pub Consumed : {S : Type 0} → (S → ℕ) → (S → SinkItem → S → Type 0) → ConsumerTask S → ConsumerTask S → Type 0
Consumed position takes old new =
    IsSameConsumer old.consumer new.consumer × (position new.sink ≡ new.consumer.position) × (new.returned_seats ≡ old.returned_seats)
    × HasGiven takes old.consumer new.consumer old.sink new.sink × IsKeeperFor new.consumer new.keeper

-- what a ring's thread owns of an opened ring, and an empty vector for the ring's seats
abbrev pub IsSplitOff : {S : Type 0} → Opened S → ConsumerTask S → Type 0
IsSplitOff o t = (t.consumer ≡ o.consumer) × (t.sink ≡ o.sink) × (t.returned_seats.items ≡ []) × (length o.seats.items ≤ vec_capacity t.returned_seats) × (t.keeper ≡ o.keeper)

-- the same task, possibly with other seats
abbrev pub HasSameParts : {S : Type 0} → ConsumerTask S → ConsumerTask S → Type 0
HasSameParts t u = (u.consumer ≡ t.consumer) × (u.sink ≡ t.sink) × (u.keeper ≡ t.keeper)

-- the seats that were returned to the tasks, a row for each ring
abbrev pub returned_rows : {S : Type 0} → List (ConsumerTask S) → List (List WorkerSeat)
returned_rows tasks = map (λ t. t.returned_seats.items) tasks

-- the opened ring that has these parts
abbrev pub joined_ring : {S : Type 0} → Shared → ConsumerTask S → Opened S
joined_ring ring t = record { ring = ring; seats = t.returned_seats; consumer = t.consumer; keeper = t.keeper; sink = t.sink }

-- the same for each ring
abbrev pub joined_rings : {S : Type 0} → List Shared → List (ConsumerTask S) → List (Opened S)
joined_rings [] tasks = []
joined_rings (ring ∷ rings) [] = []
joined_rings (ring ∷ rings) (t ∷ tasks) = joined_ring ring t ∷ joined_rings rings tasks

-- the same consumer; the sink was given what the consumer took and handed out, and its position is the consumer's; and
-- the keeper still fits the ring
abbrev pub IsConsumed : {S : Type 0} → (S → ℕ) → (S → SinkItem → S → Type 0) → Opened S → Opened S → Type 0
IsConsumed position takes old new =
    IsSameConsumer old.consumer new.consumer × (position new.sink ≡ new.consumer.position)
    × HasGiven takes old.consumer new.consumer old.sink new.sink × IsKeeperFor new.consumer new.keeper

-- what was left in the ring was taken: the ring and its seats are the same
abbrev pub TakesRest : {S : Type 0} → (S → ℕ) → (S → SinkItem → S → Type 0) → Opened S → Opened S → Type 0
TakesRest position takes old new = IsConsumed position takes old new × (new.ring ≡ old.ring) × (new.seats ≡ old.seats) × IsDrained new
