-- The effect of a record's commit on a shared ring, over its whole history, and what it adds to what its worker sent
-- (own).
use Rattle.std.specs.Prelude.{ℕ, Ok}
use Rattle.std.specs.FinMap.{insert}
use Rattle.rb_history.specs.declared.answers.Notice.{Notice}
use Rattle.rb_history.specs.ReservationModel.{Granted}
use Rattle.rb_history.specs.RingModel.{Ring, Contents}
use Rattle.rb_chapter_ring.specs.declared.record_end.RecordEnd.{RecordEnd}
use Rattle.rb_chapter_ring.specs.declared.record_end.RecordEnd.TheVariants.{Submit, Discard}
use Rattle.rb_ledger.specs.LockedCalls.{SubmitsAt, DiscardsAt}

-- the reservation's record is committed in this way, with this notice
abbrev pub EndsAt : RecordEnd → Granted → ℕ → Notice → Ring → Ring → Type 0
EndsAt Submit r flags notice = SubmitsAt r flags (Ok notice)
EndsAt Discard r flags notice = DiscardsAt r flags (Ok notice)

-- the bytes of a submitted record were sent
abbrev pub sent_by_end : RecordEnd → Granted → Contents → Contents
sent_by_end Submit r sent = insert sent r.pos r.bytes
sent_by_end Discard r sent = sent
