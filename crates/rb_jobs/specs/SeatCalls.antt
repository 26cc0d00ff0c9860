-- What each helper call does to the one seat that it uses, as the shared ring answers it over its whole history (own).
use Rattle.std.specs.FinMap.{insert}
use Rattle.std.specs.Prelude.{◌≡◌, ◌≢◌, ℕ, ◌+◌, ◌<◌, ◌≤◌, ◌⊎◌, ℤ, ◌↔◌, pos, neg_ℤ, Bool, true, false, List, [], ◌∷◌, length, slice_get, slice_set, Option, Some, None, Ok}
use Rattle.rb_history.specs.declared.answers.Notice.{Notice}
use Rattle.rb_history.specs.declared.answers.Notice.TheVariants.{Due, NotDue}
use Rattle.rb_history.specs.RingModel.{Ring}
use Rattle.rb_history.specs.Calls.{producer_now}
use Rattle.rb_chapter_ring.specs.declared.faults.ReserveFault.TheVariants.{Full, ChapterFull}
use Rattle.rb_ledger.specs.Roles.Role.{Worker}
use Rattle.rb_ledger.specs.Seats.{WorkerSeat}
use Rattle.rb_ledger.specs.LockedCalls.{LockedCall, SubmitsAt, DiscardsAt, Queries, output_by, sent_by_output}
use Rattle.rb_ledger.specs.EntryRoom.{InRoom}
use Rattle.rb_chapter_ring.specs.Hands.{out_record, in_hand, AreAllOut, IsLowestFree}
use Rattle.rb_chapter_ring.specs.HandGranted.{HandGranted}
use Rattle.rb_shared_ring.specs.SharedCalls.{RefusesInRoom, ReservesInRoom, OutputsInRoom}
use Rattle.rb_interp.specs.ErrorNumbers.{EAGAIN, EINVAL}
use Rattle.rb_interp.specs.AnsweredCalls.{AnsweredCall, Reserved, Submitted, Discarded, SentOut, Queried, MayAnswerOutput}
use Rattle.rb_chapter_ring.specs.declared.ring_record.RingRecord.{RingRecord}

-- ---- one seat

-- The seat made one call of the ring, at one moment under its lock. The ring's whole history begins with what the seat
-- had seen, and the entries that others added since are not of the seat's worker. The ring has the seat's room for
-- entries, and as many entries were handed out as the seat then knows.
abbrev pub SeatCallsRing : (Ring → Ring → Type 0) → WorkerSeat → WorkerSeat → Type 0
SeatCallsRing Call b a = LockedCall (Worker b.worker) b.seen a.seen (InRoom b.room a.cut Call)

-- the reservation is out at the seat: it has the seat's tag and worker, and the hand that it names is out with its
-- position, serial and length
pub record IsOutAtSeat (seat : WorkerSeat) (r : HandGranted) : Type 0 where
  pub tag_is : r.tag ≡ seat.tag
  pub worker_is : r.granted.worker ≡ seat.worker
  pub out : in_hand seat.hands r.hand ≡ Some (out_record r.granted.pos r.granted.serial (length r.granted.bytes))

-- the ring answered a query with this number at one call; only what the seat has seen changes
abbrev pub SeatQueries : ℕ → ℕ → WorkerSeat → WorkerSeat → Type 0
SeatQueries what answer b a = SeatCallsRing (Queries what answer) b a × (a ≡ record b { seen = a.seen; cut = a.cut })

-- at one call the ring granted exactly this reservation of n bytes to the seat's worker, into the seat's lowest free
-- hand
abbrev pub SeatIsGranted : ℕ → HandGranted → WorkerSeat → WorkerSeat → Type 0
SeatIsGranted n r b a =
    SeatCallsRing (ReservesInRoom b.room a.cut b.worker n (Ok r.granted)) b a × (r.granted.serial ≡ b.tally.made)
    × IsLowestFree b.hands r.hand × IsOutAtSeat a r
    × (a ≡ record b { seen = a.seen; cut = a.cut; tally = record b.tally { made = b.tally.made + 1 }; hands = slice_set b.hands r.hand (Some (out_record r.granted.pos r.granted.serial n)) })

-- at one call the ring had no room for n bytes, which its history records
abbrev pub SeatFindsFull : ℕ → WorkerSeat → WorkerSeat → Type 0
SeatFindsFull n b a =
    SeatCallsRing (λ old new. RefusesInRoom b.room a.cut old new b.worker n Full) b a
    × (a ≡ record b { seen = a.seen; cut = a.cut; tally = record b.tally { refused = b.tally.refused + 1 } })

-- at one call the ring had no room for entries: if it had room for n bytes, for all entries of such a record; else for
-- the entry of the refusal. Nothing was added to the history
abbrev pub SeatFindsChapterFull : ℕ → WorkerSeat → WorkerSeat → Type 0
SeatFindsChapterFull n b a = SeatCallsRing (λ old new. RefusesInRoom b.room a.cut old new b.worker n ChapterFull) b a × (a ≡ record b { seen = a.seen; cut = a.cut })

-- each of several consecutive calls found the chapter full; the list has the seat after each of them
abbrev pub FindsChapterFullEach : ℕ → WorkerSeat → List WorkerSeat → WorkerSeat → Type 0
FindsChapterFullEach n b [] a = a ≡ b
FindsChapterFullEach n b (m ∷ ms) a = SeatFindsChapterFull n b m × FindsChapterFullEach n m ms a

-- how often the ring is called for one record before a full chapter is reported: its keeper may hand out the chapter
-- meanwhile
abbrev pub chapter_tries : ℕ
chapter_tries = 64

-- at `chapter_tries` calls the ring had no room for entries, and what the last call says holds for all of them together
pub record SeatGivesUp (n : ℕ) (b a : WorkerSeat) : Type 0 where
  pub behind_each : List WorkerSeat
  pub as_often : length behind_each ≡ chapter_tries
  pub each : FindsChapterFullEach n b behind_each a
  pub at_last : SeatFindsChapterFull n b a

-- the bytes of a record do not fit into a sheet without an allocation
abbrev pub NeedsMemory : ℕ → Type 0
NeedsMemory n = 16 < n

-- no record of n bytes was made: the ring had no room; or its chapter had none, at call after call; or the ring was not
-- called, for this reason. All but the first are unlogged
abbrev pub SeatIsRefused : (Uncalled : WorkerSeat → Type 0) → ℕ → ℕ → WorkerSeat → WorkerSeat → Type 0
SeatIsRefused Uncalled n unlogged b a =
    (SeatFindsFull n b a × (unlogged ≡ 0)) ⊎ (SeatGivesUp n b a × (unlogged ≡ 1)) ⊎ (Uncalled b × (a ≡ b) × (unlogged ≡ 1))

-- why the ring is not called for a reservation: all four hands of the seat are out, or its sheet needed an allocation,
-- which failed
abbrev pub NoHandOrSheet : ℕ → WorkerSeat → Type 0
NoHandOrSheet n b = AreAllOut b.hands ⊎ NeedsMemory n

-- why the ring is not called for an output, which takes no hand: its sheet needed an allocation, which failed
abbrev pub HasNoSheet : ℕ → WorkerSeat → Type 0
HasNoSheet n b = NeedsMemory n

abbrev pub notice_of : Bool → Notice
notice_of true = Due
notice_of false = NotDue

-- A submit of the reservation with these flags is accepted if and only if the reservation is out at the seat; then the
-- ring accepted it at one call, and the hand is free. Otherwise it is handed back without a call of the ring.
pub record SeatSubmits (r : HandGranted) (flags : ℕ) (taken due : Bool) (b a : WorkerSeat) : Type 0 where
  pub exact : (taken ≡ true) ↔ IsOutAtSeat b r
  pub takes : taken ≡ true
      → SeatCallsRing (SubmitsAt r.granted flags (Ok (notice_of due))) b a
      × (a ≡ record b { seen = a.seen; cut = a.cut; tally = record b.tally { submitted = b.tally.submitted + 1 }; hands = slice_set b.hands r.hand None; sent = insert b.sent r.granted.pos r.granted.bytes })
  pub hands_back : taken ≡ false → (due ≡ false) × (a ≡ b)

-- the same for a discard, which sends nothing
pub record SeatDiscards (r : HandGranted) (flags : ℕ) (taken due : Bool) (b a : WorkerSeat) : Type 0 where
  pub exact : (taken ≡ true) ↔ IsOutAtSeat b r
  pub takes : taken ≡ true
      → SeatCallsRing (DiscardsAt r.granted flags (Ok (notice_of due))) b a
      × (a ≡ record b { seen = a.seen; cut = a.cut; tally = record b.tally { discarded = b.tally.discarded + 1 }; hands = slice_set b.hands r.hand None })
  pub hands_back : taken ≡ false → (due ≡ false) × (a ≡ b)

-- at one call the ring accepted these bytes with these flags, as the record at the former producer position
abbrev pub SeatOutputs : List ℕ → ℕ → Bool → WorkerSeat → WorkerSeat → Type 0
SeatOutputs bytes flags due b a = SeatCallsRing (λ old new.
    OutputsInRoom b.room a.cut b.worker bytes flags (Ok (notice_of due)) old new
    × (a ≡ record b { seen = a.seen; cut = a.cut; tally = output_by b.tally (Ok (notice_of due)); sent = sent_by_output b.sent (producer_now old) bytes (Ok (notice_of due)) })) b a

-- ---- all seats of the helpers

-- there is a seat at this ring, and the call changed it in this way; the other seats did not change
pub record AtSeat (ring : ℕ) (Did : WorkerSeat → WorkerSeat → Type 0) (old new : List WorkerSeat) : Type 0 where
  pub before : WorkerSeat
  pub after : WorkerSeat
  pub before_is : slice_get old ring ≡ Some before
  pub new_is : new ≡ slice_set old ring after
  pub did : Did before after

-- a call to reserve n bytes was answered by a record of this ring, or by null; nonzero flags change nothing
abbrev pub ReserveAnswered : ℕ → ℕ → ℕ → Option RingRecord → ℕ → List WorkerSeat → List WorkerSeat → Type 0
ReserveAnswered ring n flags (Some r) unlogged old new =
    (flags ≡ 0) × (unlogged ≡ 0) × (r.ring ≡ ring) × AtSeat ring (SeatIsGranted n r.reservation) old new
ReserveAnswered ring n flags None unlogged old new =
    (flags ≡ 0 → AtSeat ring (SeatIsRefused (NoHandOrSheet n) n unlogged) old new) × (flags ≢ 0 → (new ≡ old) × (unlogged ≡ 0))

-- a call to submit or discard a record changed the seat at its ring in this way; a record of a ring that is not among
-- these is handed back and changes nothing
pub record RecordAnswered (ring : ℕ) (taken due : Bool) (Did : WorkerSeat → WorkerSeat → Type 0) (old new : List WorkerSeat) : Type 0 where
  pub at_ring : ring < length old → AtSeat ring Did old new
  pub no_ring : length old ≤ ring → (taken ≡ false) × (due ≡ false) × (new ≡ old)

-- a call to output the bytes was answered in this way; bad flags change nothing
pub record OutputAnswered (ring : ℕ) (bytes : List ℕ) (flags : ℕ) (answer : ℤ) (due : Bool) (unlogged : ℕ) (old new : List WorkerSeat) : Type 0 where
  pub answer_is : MayAnswerOutput flags answer
  pub sent : answer ≡ pos 0 → AtSeat ring (SeatOutputs bytes flags due) old new × (unlogged ≡ 0)
  pub refused : answer ≡ neg_ℤ EAGAIN → AtSeat ring (SeatIsRefused (HasNoSheet (length bytes)) (length bytes) unlogged) old new × (due ≡ false)
  pub no_step : answer ≡ neg_ℤ EINVAL → (new ≡ old) × (due ≡ false) × (unlogged ≡ 0)

-- the call was made and answered in this way with the seats; whether a notice is due, and the number of unlogged
-- failures that it added
abbrev pub CallsSeats : AnsweredCall RingRecord → Bool → ℕ → List WorkerSeat → List WorkerSeat → Type 0
CallsSeats (Reserved ring n flags answer) due unlogged old new = ReserveAnswered ring n flags answer unlogged old new × (due ≡ false)
CallsSeats (Submitted owned flags taken) due unlogged old new =
    RecordAnswered owned.ring taken due (SeatSubmits owned.reservation flags taken due) old new × (unlogged ≡ 0)
CallsSeats (Discarded owned flags taken) due unlogged old new =
    RecordAnswered owned.ring taken due (SeatDiscards owned.reservation flags taken due) old new × (unlogged ≡ 0)
CallsSeats (SentOut ring bytes flags answer) due unlogged old new = OutputAnswered ring bytes flags answer due unlogged old new
CallsSeats (Queried ring what answer) due unlogged old new = AtSeat ring (SeatQueries what answer) old new × (due ≡ false) × (unlogged ≡ 0)
