-- The view that contracts have of a shared ring and of its seats (own).
use Rattle.std.specs.Prelude.{◌≡◌, ℕ, zero, suc, ◌+◌, ◌<◌, ◌≤◌, ◌==◌, Bool, true, List, [], ◌∷◌, Option, None}
use Rattle.std.specs.List.{list_any, list_all, count_by, sum_by}
use Rattle.std.specs.FinMap.{empty}
use Rattle.atomic_table.specs.Seated.{TableId}
use Rattle.rb_history.specs.History.{consumer_of}
use Rattle.rb_history.specs.Legal.{IsLegal}
use Rattle.rb_history.specs.RingModel.{Ring, Contents, IsRingSize, IsStartPosition, IsWorkerCount}
use Rattle.rb_history.specs.declared.tally.Tally.{Tally}
use Rattle.rb_chapter_ring.specs.Hands.{Hands, free_hands}
use Rattle.rb_ledger.specs.Roles.{Book}
use Rattle.rb_history.specs.WorkerCounts.{tally_of, events_of, skips_of}

-- a shared ring: the caller's tag for it, and its identity
pub record Shared : Type 0 where
  pub tag : ℕ
  pub ring : TableId

-- A worker's seat: the tag and the ring with which it was opened; the room of each chapter of the ring; its counts; its
-- four hands; the book as it last saw it, and how many of its entries had been handed out in chapters; the bytes that
-- it submitted or output, by position; and the ring's state if the seat holds it.
pub record WorkerSeat : Type 0 where
  pub tag : ℕ
  pub ring : TableId
  pub room : ℕ
  pub worker : ℕ
  pub tally : Tally
  pub hands : Hands
  pub seen : Book
  pub cut : ℕ
  pub sent : Contents
  pub out : Option Ring

-- the consumer's seat, with the bytes that it took as events, by position
pub record ConsumerSeatValue : Type 0 where
  pub tag : ℕ
  pub ring : TableId
  pub consumed : ℕ
  pub skipped : ℕ
  pub position : ℕ
  pub seen : Book
  pub got : Contents
  pub out : Option Ring

-- ---- a seat and a history

-- the book is that of a ring that was opened: its parameters are within bounds, and its history is legal
pub record IsBook (b : Book) : Type 0 where
  pub size : IsRingSize b.setup.size
  pub start : IsStartPosition b.setup.start
  pub workers : IsWorkerCount b.setup.workers
  pub legal : IsLegal b.setup b.history

-- a worker's counts agree with a book: they are those of the worker's entries in it
pub record Ties (w : ℕ) (t : Tally) (b : Book) : Type 0 where
  pub in_ring : w < b.setup.workers
  pub counted : t ≡ tally_of w b.history

-- the consumer's counts agree with a book: they are those of the takes in it, and its position is the consumer position
pub record ConsumerTies (consumed skipped position : ℕ) (b : Book) : Type 0 where
  pub consumed_is : consumed ≡ events_of b.history
  pub skipped_is : skipped ≡ skips_of b.history
  pub position_is : position ≡ consumer_of b.setup.start b.history

-- it is the same worker's seat at the same ring
pub record IsSameSeat (old new : WorkerSeat) : Type 0 where
  pub tag_same : new.tag ≡ old.tag
  pub ring_same : new.ring ≡ old.ring
  pub room_same : new.room ≡ old.room
  pub worker_same : new.worker ≡ old.worker

-- ---- seats at a ring that was just opened

abbrev pub fresh_book : ℕ → ℕ → ℕ → Book
fresh_book size start workers = record { setup = record { size = size; start = start; workers = workers }; history = [] }

abbrev pub fresh_seat : ℕ → TableId → ℕ → ℕ → Book → WorkerSeat
fresh_seat tag ring room worker seen = record {
  tag = tag;
  ring = ring;
  room = room;
  worker = worker;
  tally = record { made = 0; refused = 0; submitted = 0; discarded = 0 };
  hands = free_hands;
  seen = seen;
  cut = 0;
  sent = empty;
  out = None;
}

-- seats of the workers from `first` on
abbrev pub fresh_seats : ℕ → TableId → ℕ → Book → ℕ → ℕ → List WorkerSeat
fresh_seats tag ring room seen first zero = []
fresh_seats tag ring room seen first (suc n) = fresh_seat tag ring room first seen ∷ fresh_seats tag ring room seen (first + 1) n

-- ---- all seats of a ring

abbrev pub are_tagged : ℕ → List WorkerSeat → Bool
are_tagged tag seats = list_all (λ s. s.tag == tag) seats

-- one of these seats is the worker's
abbrev pub has_seat : ℕ → List WorkerSeat → Bool
has_seat worker seats = list_any (λ s. s.worker == worker) seats

-- each worker of the ring has a seat among these
abbrev pub HasAll : ℕ → List WorkerSeat → Type 0
HasAll workers seats = (w : ℕ) → w < workers → has_seat w seats ≡ true

-- the number of these seats that are the worker's
abbrev pub seats_of : ℕ → List WorkerSeat → ℕ
seats_of worker seats = count_by (λ s. s.worker == worker) seats

-- the number of reservations that the seats made
abbrev pub all_made : List WorkerSeat → ℕ
all_made seats = sum_by (λ s. s.tally.made) seats

-- the number of records that they submitted, including outputs
abbrev pub all_submitted : List WorkerSeat → ℕ
all_submitted seats = sum_by (λ s. s.tally.submitted) seats

-- the number of records that they discarded
abbrev pub all_discarded : List WorkerSeat → ℕ
all_discarded seats = sum_by (λ s. s.tally.discarded) seats

-- the seat submitted and discarded at most as many records as it was granted
abbrev pub SettlesWithin : WorkerSeat → Type 0
SettlesWithin s = s.tally.submitted + s.tally.discarded ≤ s.tally.made

-- the seat submitted or discarded each record that it was granted
abbrev pub HasSettledAll : WorkerSeat → Type 0
HasSettledAll s = s.tally.made ≡ s.tally.submitted + s.tally.discarded
