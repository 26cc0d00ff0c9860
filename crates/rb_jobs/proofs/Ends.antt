-- The helpers' call for the end of a record.
use Rattle.std.proofs.Common.{◌≡◌, ℕ, Bool, List, refl}
use Rattle.rb_chapter_ring.specs.HandGranted.{HandGranted}
use Rattle.rb_chapter_ring.specs.declared.record_end.RecordEnd.{RecordEnd}
use Rattle.rb_chapter_ring.specs.declared.record_end.RecordEnd.TheVariants.{Submit, Discard}
use Rattle.rb_ledger.specs.Seats.{WorkerSeat}
use Rattle.rb_interp.specs.AnsweredCalls.{note_of}
use Rattle.rb_chapter_ring.specs.declared.ring_record.RingRecord.{RingRecord}
use Rattle.rb_jobs.specs.SeatCalls.{CallsSeats, RecordAnswered, SeatSubmits, SeatDiscards}
use Rattle.rb_jobs.specs.inner.RecordEnds.{SeatEnds, ended_call, ended_note}
use Rattle.rb_jobs.proofs.OneSeat.{at_seat_as}

pub is_note : (end : RecordEnd) (owned : RingRecord) (flags : ℕ) (taken : Bool) → ended_note end flags taken ≡ note_of (ended_call end owned flags taken)
is_note Submit owned flags taken = refl
is_note Discard owned flags taken = refl

-- an answer that means the first means the second
answered_as : (ring : ℕ) (taken due : Bool) (First Second : WorkerSeat → WorkerSeat → Type 0) (old new : List WorkerSeat) → ((b a : WorkerSeat) → First b a → Second b a)
    → RecordAnswered ring taken due First old new → RecordAnswered ring taken due Second old new
answered_as ring taken due First Second old new entails led = record { at_ring = λ below. at_seat_as First Second ring old new entails (led.at_ring below); no_ring = led.no_ring }

module _ (r : HandGranted) (flags : ℕ) (taken due : Bool) (b a : WorkerSeat) where
  submit_ends : SeatSubmits r flags taken due b a → SeatEnds Submit r flags taken due b a
  submit_ends did = record { exact = did.exact; takes = did.takes; hands_back = did.hands_back }

  discard_ends : SeatDiscards r flags taken due b a → SeatEnds Discard r flags taken due b a
  discard_ends did = record { exact = did.exact; takes = did.takes; hands_back = did.hands_back }

  ends_submit : SeatEnds Submit r flags taken due b a → SeatSubmits r flags taken due b a
  ends_submit did = record { exact = did.exact; takes = did.takes; hands_back = did.hands_back }

  ends_discard : SeatEnds Discard r flags taken due b a → SeatDiscards r flags taken due b a
  ends_discard did = record { exact = did.exact; takes = did.takes; hands_back = did.hands_back }

module _ (owned : RingRecord) (flags : ℕ) (taken due : Bool) (unlogged : ℕ) (old new : List WorkerSeat) where
  -- what the seats did, by the kind of end
  abbrev pub Ended : RecordEnd → Type 0
  Ended end = RecordAnswered owned.ring taken due (SeatEnds end owned.reservation flags taken due) old new × (unlogged ≡ 0)

  pub ended_of : (end : RecordEnd) → CallsSeats (ended_call end owned flags taken) due unlogged old new → Ended end
  ended_of Submit led = (answered_as owned.ring taken due (SeatSubmits owned.reservation flags taken due) (SeatEnds Submit owned.reservation flags taken due) old new (submit_ends owned.reservation flags taken due) led.0, led.1)
  ended_of Discard led = (answered_as owned.ring taken due (SeatDiscards owned.reservation flags taken due) (SeatEnds Discard owned.reservation flags taken due) old new (discard_ends owned.reservation flags taken due) led.0, led.1)

  pub of_ended : (end : RecordEnd) → Ended end → CallsSeats (ended_call end owned flags taken) due unlogged old new
  of_ended Submit led = (answered_as owned.ring taken due (SeatEnds Submit owned.reservation flags taken due) (SeatSubmits owned.reservation flags taken due) old new (ends_submit owned.reservation flags taken due) led.0, led.1)
  of_ended Discard led = (answered_as owned.ring taken due (SeatEnds Discard owned.reservation flags taken due) (SeatDiscards owned.reservation flags taken due) old new (ends_discard owned.reservation flags taken due) led.0, led.1)
