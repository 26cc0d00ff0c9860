-- The result of a call with one of the seats, before it is appended to the trace, and how it is appended.
use Rattle.std.specs.Prelude.{◌≡◌, ◌≢◌, ℕ, ◌+◌, ◌-◌, cond, ℤ, pos, neg_ℤ, Bool, true, false, List, [], ◌∷◌, ◌++◌, length, Result, Ok, Err}
use Rattle.rb_history.specs.declared.answers.Notice.{Notice}
use Rattle.rb_history.specs.declared.answers.Notice.TheVariants.{Due, NotDue}
use Rattle.rb_chapter_ring.specs.HandGranted.{HandGranted}
use Rattle.rb_chapter_ring.specs.Hands.{AreAllOut}
use Rattle.rb_chapter_ring.specs.declared.faults.ReserveFault.{ReserveFault}
use Rattle.rb_chapter_ring.specs.declared.faults.ReserveFault.TheVariants.{Full, Flags, ChapterFull, Foreign, HandsFull}
use Rattle.rb_ledger.specs.Seats.{WorkerSeat}
use Rattle.rb_interp.specs.ErrorNumbers.{EAGAIN, EINVAL}
use Rattle.rb_interp.specs.declared.completed_call.Done.{Done}
use Rattle.rb_jobs.specs.declared.no_record.NoRecord.{NoRecord}
use Rattle.rb_jobs.specs.declared.no_record.NoRecord.TheVariants.{BadFlags, NoSheet, Refused}
use Rattle.rb_jobs.specs.SeatCalls.{SeatIsGranted, SeatFindsFull, SeatFindsChapterFull, SeatGivesUp, SeatOutputs, NeedsMemory}
use Rattle.rb_jobs.specs.SeatHelpers.{AtSeats}

abbrev pub is_due_by : Notice → Bool
is_due_by Due = true
is_due_by NotDue = false

-- the ring refused a record of n bytes for this reason at one call; the reason is not the flags, and the seat is at the
-- ring
abbrev pub SeatFailsOnce : ℕ → ReserveFault → WorkerSeat → WorkerSeat → Type 0
SeatFailsOnce n Full b a = SeatFindsFull n b a
SeatFailsOnce n ChapterFull b a = SeatFindsChapterFull n b a
SeatFailsOnce n Flags b a = ⊥
SeatFailsOnce n Foreign b a = ⊥
SeatFailsOnce n HandsFull b a = AreAllOut b.hands × (a ≡ b)

-- the ring's result of one call to reserve n bytes
abbrev pub SeatReservesOnce : ℕ → Result HandGranted (ReserveFault × List ℕ) → WorkerSeat → WorkerSeat → Type 0
SeatReservesOnce n (Ok r) b a = SeatIsGranted n r b a
SeatReservesOnce n (Err e) b a = SeatFailsOnce n e.0 b a

-- the ring's result of one call to output the bytes, which takes no hand
abbrev pub SeatSendsOnce : List ℕ → ℕ → Result Notice (ReserveFault × List ℕ) → WorkerSeat → WorkerSeat → Type 0
SeatSendsOnce bytes flags (Ok notice) b a = SeatOutputs bytes flags (is_due_by notice) b a
SeatSendsOnce bytes flags (Err e) b a = SeatFailsOnce (length bytes) e.0 b a × (e.0 ≢ HandsFull)

-- no record of n bytes was made, for this reason; a full chapter was found at call after call
abbrev pub SeatFails : ℕ → NoRecord → WorkerSeat → WorkerSeat → Type 0
SeatFails n BadFlags b a = ⊥
SeatFails n NoSheet b a = NeedsMemory n × (a ≡ b)
SeatFails n (Refused Full) b a = SeatFindsFull n b a
SeatFails n (Refused ChapterFull) b a = SeatGivesUp n b a
SeatFails n (Refused Flags) b a = ⊥
SeatFails n (Refused Foreign) b a = ⊥
SeatFails n (Refused HandsFull) b a = AreAllOut b.hands × (a ≡ b)

abbrev pub SeatReserves : ℕ → Result HandGranted NoRecord → WorkerSeat → WorkerSeat → Type 0
SeatReserves n (Ok r) b a = SeatIsGranted n r b a
SeatReserves n (Err fault) b a = SeatFails n fault b a

abbrev pub SeatSends : List ℕ → ℕ → Result Notice NoRecord → WorkerSeat → WorkerSeat → Type 0
SeatSends bytes flags (Ok notice) b a = SeatOutputs bytes flags (is_due_by notice) b a
SeatSends bytes flags (Err fault) b a = SeatFails (length bytes) fault b a × (fault ≢ Refused HandsFull)

-- a notice is due after this result
abbrev pub due_in : {E : Type 0} → Result Notice E → Bool
due_in (Ok notice) = is_due_by notice
due_in (Err e) = false

-- the result is a failure that no history records
abbrev pub unlogged_in : {T : Type 0} → Result T NoRecord → Bool
unlogged_in (Ok x) = false
unlogged_in (Err BadFlags) = false
unlogged_in (Err NoSheet) = true
unlogged_in (Err (Refused Full)) = false
unlogged_in (Err (Refused ChapterFull)) = true
unlogged_in (Err (Refused Flags)) = false
unlogged_in (Err (Refused Foreign)) = false
unlogged_in (Err (Refused HandsFull)) = true

-- the answer of an output
abbrev pub output_number : Result Notice NoRecord → ℤ
output_number (Ok _) = pos 0
output_number (Err BadFlags) = neg_ℤ EINVAL
output_number (Err NoSheet) = neg_ℤ EAGAIN
output_number (Err (Refused _)) = neg_ℤ EAGAIN

-- the helpers after a call was appended to the trace
abbrev pub with_call : AtSeats → Done → Bool → AtSeats
with_call h done unlogged = record h { trace = h.trace ++ done ∷ []; room = h.room - 1; unlogged = h.unlogged + cond unlogged 1 0 }
