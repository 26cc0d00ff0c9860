-- The headline, in words: "Whenever a ring's lock is free, the history kept under it is legal, as one thread's run of
-- the sequential ring, and is what the ring's state stands for; and once all seats and the consumer are gathered, the
-- history holds each worker's reservations once each in its own order, bytes taken are those submitted, and
-- reservations equal records consumed, discarded, waiting and busy, for any number of workers" (own).
use Rattle.std.specs.Prelude.{◌≡◌, ◌≢◌, ℕ, ◌+◌, ◌<◌, ◌↔◌, true, List, [], ◌∷◌, Some}
use Rattle.std.specs.List.{All, Any}
use Rattle.std.specs.FinMap.{get}
use mathlib.Core.Option.{some}
use lib.ListN.{get_elem?}
use Rattle.rb_history.specs.declared.entries.Entry.{Entry}
use Rattle.rb_history.specs.declared.answers.Counts.{Counts}
use Rattle.rb_history.specs.Counting.{counts_of}
use Rattle.rb_history.specs.RoomRule.{Setup}
use Rattle.rb_history.specs.Legal.{IsLegal}
use Rattle.rb_history.specs.OneCall.{IsOneCall}
use Rattle.rb_history.specs.RingModel.{Ring, Contents, StandsFor, IsWorkerCount, fresh}
use Rattle.rb_ledger.specs.Roles.{Book, book_of, ExtendsSeen}
use Rattle.rb_history.specs.WorkerCounts.{is_record_of, serials_of, numbers_below}
use Rattle.rb_ledger.specs.Roles.Role.{Consumer, Worker}
use Rattle.rb_ledger.specs.RoleKnowledge.{PassView}
use Rattle.rb_ledger.specs.Ledger.{IsRing}
use Rattle.rb_ledger.specs.LockRule.{KeepsLockRule}
use Rattle.rb_ledger.specs.Seats.{WorkerSeat, ConsumerSeatValue, Ties, ConsumerTies, SettlesWithin, HasSettledAll, seats_of, all_made, all_submitted, all_discarded}

-- ---- a ring that was closed

-- The history begins with what the seat has seen, and has no entry of the seat's own after that; the seat's counts are
-- those of its worker's entries; and its records' serials are 0 to made - 1, in this order.
pub record Accounts (b : Book) (s : WorkerSeat) : Type 0 where
  pub goes_on : ExtendsSeen (Worker s.worker) s.seen b
  pub ties : Ties s.worker s.tally b
  pub in_order : serials_of s.worker b.history ≡ numbers_below s.tally.made

-- one of the seats has sent these bytes as its record at p
abbrev pub IsSentBy : List WorkerSeat → Book → ℕ → List ℕ → Type 0
IsSentBy seats b p bytes = Any (λ s. (is_record_of s.worker b.history p ≡ true) × (get s.sent p ≡ Some bytes)) seats

-- all of these bytes are those that the seat of their record's worker sent
abbrev pub AreSent : List WorkerSeat → Book → Contents → Type 0
AreSent seats b bytes_at = (p : ℕ) (bytes : List ℕ) → get bytes_at p ≡ Some bytes → IsSentBy seats b p bytes

-- each record that was made is consumed, discarded, waiting or busy
abbrev pub ReservationsBalance : List WorkerSeat → Counts → Type 0
ReservationsBalance seats n = all_made seats ≡ n.consumed + n.discarded + n.waiting + n.busy

-- the ring, once all seats and the consumer are gathered: what `close` promises if it returns Ok
pub record IsClosed (r : Ring) (seats : List WorkerSeat) (consumer : ConsumerSeatValue) : Type 0 where
  pub is_ring : IsRing r
  pub each_once : (w : ℕ) → w < r.setup.workers → seats_of w seats ≡ 1
  pub seats_tie : All (Accounts (book_of r)) seats
  pub consumer_goes_on : ExtendsSeen Consumer consumer.seen (book_of r)
  pub consumer_ties : ConsumerTies consumer.consumed consumer.skipped consumer.position (book_of r)
  pub got_is_sent : AreSent seats (book_of r) consumer.got
  pub waiting_is_sent : AreSent seats (book_of r) r.contents
  pub balanced : ReservationsBalance seats (counts_of r.history)

-- ---- the seats' counts and the ring's counts

-- what the seats submitted is consumed or waiting, what they discarded is discarded, and the rest of what they made is
-- busy
pub record NumbersAgree (seats : List WorkerSeat) (n : Counts) : Type 0 where
  pub within : All SettlesWithin seats
  pub submitted_are : all_submitted seats ≡ n.consumed + n.waiting
  pub discarded_are : all_discarded seats ≡ n.discarded
  pub rest_is_busy : all_made seats ≡ all_submitted seats + all_discarded seats + n.busy
  pub none_busy : All HasSettledAll seats ↔ (n.busy ≡ 0)

abbrev pub OnceClosed : Type 0
OnceClosed = (r : Ring) (seats : List WorkerSeat) (consumer : ConsumerSeatValue) → IsClosed r seats consumer → NumbersAgree seats (counts_of r.history)

-- ---- the headline

-- from this ring on, each entry is one call of the ring of one thread
abbrev pub IsRunFrom : Ring → List Entry → Type 0
IsRunFrom old [] = Unit {0}
IsRunFrom old (e ∷ es) = (new : Ring) × IsOneCall old e new × IsRunFrom new es

-- the history is one thread's run of the sequential ring, from its opening
abbrev pub IsOneRun : Setup → List Entry → Type 0
IsOneRun setup h = IsRunFrom (fresh setup.size setup.start setup.workers) h

-- the ring under the lock
pub record IsSequential (r : Ring) : Type 0 where
  pub legal : IsLegal r.setup r.history
  pub one_run : IsOneRun r.setup r.history
  pub stands_for : StandsFor r

-- "Whenever a ring's lock is free": the state is in the queue, and some pass has a role.
abbrev pub WheneverFree : Type 0
WheneverFree =
    (r : Ring) (views : List PassView) → KeepsLockRule (r ∷ []) views → (pass : ℕ) (v : PassView) → get_elem? views pass ≡ some v → v.knows ≢ []
    → IsSequential r

-- each worker has one seat, whose serials in the history are 0 to made - 1, in order
pub record HoldsOnceEach (r : Ring) (seats : List WorkerSeat) : Type 0 where
  pub one_seat : (w : ℕ) → w < r.setup.workers → seats_of w seats ≡ 1
  pub in_order : All (λ s. serials_of s.worker r.history ≡ numbers_below s.tally.made) seats

-- "and once all seats and the consumer are gathered"
pub record IsGathered (r : Ring) (seats : List WorkerSeat) (consumer : ConsumerSeatValue) : Type 0 where
  pub sequential : IsSequential r
  pub once_each_in_order : HoldsOnceEach r seats
  pub taken_is_submitted : AreSent seats (book_of r) consumer.got
  pub reservations_equal : ReservationsBalance seats (counts_of r.history)
  pub any_number : IsWorkerCount r.setup.workers

abbrev pub OnceGathered : Type 0
OnceGathered = (r : Ring) (seats : List WorkerSeat) (consumer : ConsumerSeatValue) → IsClosed r seats consumer → IsGathered r seats consumer
