-- What a submit or a discard means for the record's seat, and for the helpers.
use Rattle.std.specs.Prelude.{◌≡◌, ◌↔◌, ℕ, Bool, true, false, None, slice_set}
use Rattle.rb_chapter_ring.specs.HandGranted.{HandGranted}
use Rattle.rb_chapter_ring.specs.declared.record_end.RecordEnd.{RecordEnd}
use Rattle.rb_chapter_ring.specs.declared.record_end.RecordEnd.TheVariants.{Submit, Discard}
use Rattle.rb_chapter_ring.specs.RecordEnds.{tally_with_end}
use Rattle.rb_ledger.specs.Seats.{WorkerSeat}
use Rattle.rb_ledger.specs.RecordEnds.{EndsAt, sent_by_end}
use Rattle.rb_interp.specs.declared.completed_call.Done.{Done}
use Rattle.rb_interp.specs.declared.completed_call.Done.TheVariants.{Submit as SubmitNote, Discard as DiscardNote}
use Rattle.rb_interp.specs.AnsweredCalls.{AnsweredCall, Submitted, Discarded}
use Rattle.rb_chapter_ring.specs.declared.ring_record.RingRecord.{RingRecord}
use Rattle.rb_jobs.specs.SeatCalls.{IsOutAtSeat, SeatCallsRing, notice_of}

-- what the call does to the seat: it is accepted if and only if the reservation is out there, at one call of the ring;
-- otherwise it is handed back
pub record SeatEnds (end : RecordEnd) (r : HandGranted) (flags : ℕ) (taken due : Bool) (b a : WorkerSeat) : Type 0 where
  pub exact : (taken ≡ true) ↔ IsOutAtSeat b r
  pub takes : taken ≡ true
      → SeatCallsRing (EndsAt end r.granted flags (notice_of due)) b a
      × (a ≡ record b { seen = a.seen; cut = a.cut; tally = tally_with_end end b.tally; hands = slice_set b.hands r.hand None; sent = sent_by_end end r.granted b.sent })
  pub hands_back : taken ≡ false → (due ≡ false) × (a ≡ b)

-- the call of the helpers
abbrev pub ended_call : RecordEnd → RingRecord → ℕ → Bool → AnsweredCall RingRecord
ended_call Submit owned flags taken = Submitted owned flags taken
ended_call Discard owned flags taken = Discarded owned flags taken

-- its entry in the trace
abbrev pub ended_note : RecordEnd → ℕ → Bool → Done
ended_note Submit flags taken = SubmitNote flags taken
ended_note Discard flags taken = DiscardNote flags taken
