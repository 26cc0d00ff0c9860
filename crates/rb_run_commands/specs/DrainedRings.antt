-- What is taken from rings, each up to its producer position. Each call is described over the ring's whole history
-- (own).
use Rattle.std.specs.Prelude.{◌≡◌, ℕ, ◌+◌, List, [], ◌∷◌}
use Rattle.std.specs.List.{AllZip}
use Rattle.rb_history.specs.Calls.{producer_now}
use Rattle.rb_history.specs.declared.answers.Taken.{Taken}
use Rattle.rb_history.specs.declared.answers.Taken.TheVariants.{Event, Skipped, BusyFront, Empty}
use Rattle.rb_ledger.specs.LockedCalls.{LockedCall, TakesAt, IsTakenAt, span_in, got_by}
use Rattle.rb_ledger.specs.Roles.{Book, BeginsWith}
use Rattle.rb_ledger.specs.Roles.Role.{Consumer, Worker}
use Rattle.rb_ledger.specs.Seats.{Shared, WorkerSeat}
use Rattle.rb_ledger.specs.ChapterSeats.{ChapterConsumerSeat, entries_out}
use Rattle.rb_ledger.specs.EntryRoom.{InRoom, InRoomBehind}

-- ---- one ring

-- the consumer's seat belongs to the ring
abbrev pub IsConsumerOf : Shared → ChapterConsumerSeat → Type 0
IsConsumerOf ring consumer = (consumer.tag ≡ ring.tag) × (consumer.ring ≡ ring.ring)

-- it is a record, submitted or discarded
abbrev pub IsRecord : Taken → Type 0
IsRecord (Event pos worker serial bytes) = Unit {0}
IsRecord (Skipped pos len) = Unit {0}
IsRecord BusyFront = ⊥
IsRecord Empty = ⊥

-- the consumer took this record, from its position, in one call of the ring; it handed no chapter out
pub record TakesRecord (before : ChapterConsumerSeat) (taken : Taken) (after : ChapterConsumerSeat) : Type 0 where
  pub is_record : IsRecord taken
  pub call : LockedCall Consumer before.seen after.seen (InRoomBehind before.room (entries_out before) (TakesAt taken))
  pub place : IsTakenAt before.position taken
  pub moved : after.position ≡ before.position + span_in taken
  pub got : after.got ≡ got_by before.got taken
  pub chapters_same : after.handed_out ≡ before.handed_out

-- meanwhile, the consumer took no record and handed no chapter out; others may have made calls that it has seen
pub record TakesNone (before after : ChapterConsumerSeat) : Type 0 where
  pub seen : BeginsWith after.seen before.seen
  pub stayed : after.position ≡ before.position
  pub got_same : after.got ≡ before.got
  pub chapters_same : after.handed_out ≡ before.handed_out

-- the consumer took these records, in sequence, and no others
abbrev pub TakesRecords : ChapterConsumerSeat → List Taken → ChapterConsumerSeat → Type 0
TakesRecords before [] after = TakesNone before after
TakesRecords before (taken ∷ more) after =
    (here next : ChapterConsumerSeat) × TakesNone before here × TakesRecord here taken next × TakesRecords next more after

-- the consumer took these records, up to the producer position that the worker's seat read: the worker knows of no
-- further record
pub record DrainsRing (seat : WorkerSeat) (consumer : ChapterConsumerSeat) (records : List Taken) : Type 0 where
  pub seen : Book
  pub cut : ℕ
  pub after : ChapterConsumerSeat
  pub each : TakesRecords consumer records after
  pub none_left : LockedCall (Worker seat.worker) seat.seen seen (InRoom seat.room cut (λ old new. (new ≡ old) × (producer_now old ≡ after.position)))

-- ---- all rings

-- each ring's consumer, in the rings' order
abbrev pub AreConsumersOf : List Shared → List ChapterConsumerSeat → Type 0
AreConsumersOf rings consumers = AllZip IsConsumerOf rings consumers

-- the rings were drained, in order
abbrev pub DrainsRings : List WorkerSeat → List ChapterConsumerSeat → List (List Taken) → Type 0
DrainsRings [] [] [] = Unit {0}
DrainsRings (seat ∷ seats) (consumer ∷ consumers) (records ∷ more) = DrainsRing seat consumer records × DrainsRings seats consumers more
DrainsRings _ _ _ = ⊥
