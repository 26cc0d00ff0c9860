-- Helpers over the seats of one worker: what contracts see of them, and how calls lead from one value of them to
-- another (own).
use Rattle.std.specs.Ordering.{int_eq}
use Rattle.std.specs.Prelude.{◌≡◌, ℕ, zero, ◌+◌, cond, ℤ, pos, neg_ℤ, Bool, true, false, List, [], ◌∷◌, ◌++◌, length, nat_lt}
use Rattle.std.specs.List.{AllZip, sum_by}
use Rattle.rb_ledger.specs.Seats.{Shared, WorkerSeat}
use Rattle.rb_interp.specs.ErrorNumbers.{EAGAIN}
use Rattle.rb_interp.specs.declared.completed_call.Done.{Done}
use Rattle.rb_interp.specs.declared.completed_call.Done.TheVariants.{Reserve, Submit, Discard, Output}
use Rattle.rb_interp.specs.AnsweredCalls.{AnsweredCall, note_of}
use Rattle.rb_chapter_ring.specs.declared.ring_record.RingRecord.{RingRecord}
use Rattle.rb_jobs.specs.SeatCalls.{CallsSeats}

-- the rings, the worker's seat at each of them, the calls so far, the room for more, and the number of nulls for flags 0
-- and of -EAGAIN answers that no entry of a ring explains
pub record AtSeats : Type 0 where
  pub rings : List Shared
  pub seats : List WorkerSeat
  pub trace : List Done
  pub room : ℕ
  pub unlogged : ℕ

-- a ring with this number is among them
abbrev pub has_number : AtSeats → ℕ → Bool
has_number h ring = nat_lt ring (length h.rings)

-- the seat is at the ring
abbrev pub IsAt : Shared → WorkerSeat → Type 0
IsAt ring seat = (seat.tag ≡ ring.tag) × (seat.ring ≡ ring.ring)

-- one seat at each ring, in the rings' order
abbrev pub AtRings : List Shared → List WorkerSeat → Type 0
AtRings rings seats = AllZip IsAt rings seats

-- one call was made with one of the seats, and appended to the trace with its answer; whether its ring made a notice
-- due
pub record CallsHelpers (call : AnsweredCall RingRecord) (old new : AtSeats) : Type 0 where
  pub rings_same : new.rings ≡ old.rings
  pub trace_is : new.trace ≡ old.trace ++ note_of call ∷ []
  pub room_is : new.room + 1 ≡ old.room
  pub due : Bool
  pub unlogged : ℕ
  pub unlogged_is : new.unlogged ≡ old.unlogged + unlogged
  pub seats : CallsSeats call due unlogged old.seats new.seats

-- these calls, the oldest first, lead from the old value to the new one
abbrev pub Leads : AtSeats → List (AnsweredCall RingRecord) → AtSeats → Type 0
Leads start [] now = now ≡ start
Leads start (call ∷ more) now = (mid : AtSeats) × CallsHelpers call start mid × Leads mid more now

-- these calls lead from the old state of the seats to the new one, and this many of their failures are recorded in no
-- history
abbrev pub SeatsLead : List WorkerSeat → List (AnsweredCall RingRecord) → ℕ → List WorkerSeat → Type 0
SeatsLead old [] unlogged new = (new ≡ old) × (unlogged ≡ 0)
SeatsLead old (call ∷ more) unlogged new =
    (due : Bool) × (mid : List WorkerSeat) × (first rest : ℕ) × CallsSeats call due first old mid × SeatsLead mid more rest new × (unlogged ≡ first + rest)

-- ---- what a call adds to the counts of all seats together

-- a record was made: a reservation was granted, or an output answered 0
abbrev pub makes : Done → ℕ
makes (Reserve ring len flags true) = 1
makes (Output ring len flags (pos zero)) = 1
makes _ = 0

abbrev pub submits : Done → ℕ
submits (Submit flags true) = 1
submits (Output ring len flags (pos zero)) = 1
submits _ = 0

abbrev pub discards : Done → ℕ
discards (Discard flags true) = 1
discards _ = 0

-- the answer of an output for which no record could be made
abbrev pub is_no_record : ℤ → Bool
is_no_record answer = int_eq answer (neg_ℤ EAGAIN)

-- no record was made, because the ring or its chapter had no room or an allocation failed: null for flags 0, or -EAGAIN
abbrev pub fails : Done → ℕ
fails (Reserve ring len zero false) = 1
fails (Output ring len flags answer) = cond (is_no_record answer) 1 0
fails _ = 0

-- the sum over the calls
abbrev pub call_total : (Done → ℕ) → List Done → ℕ
call_total what [] = 0
call_total what (call ∷ more) = what call + call_total what more

-- the counts of all seats together
abbrev pub made_in : List WorkerSeat → ℕ
made_in seats = sum_by (λ s. s.tally.made) seats

abbrev pub refused_in : List WorkerSeat → ℕ
refused_in seats = sum_by (λ s. s.tally.refused) seats

abbrev pub submitted_in : List WorkerSeat → ℕ
submitted_in seats = sum_by (λ s. s.tally.submitted) seats

abbrev pub discarded_in : List WorkerSeat → ℕ
discarded_in seats = sum_by (λ s. s.tally.discarded) seats
