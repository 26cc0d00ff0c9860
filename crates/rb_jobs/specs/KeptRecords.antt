-- The records that helpers over seats keep: those that are out in a hand of their seats (own).
use Rattle.std.specs.Prelude.{◌≡◌, ℕ, slice_get, Some}
use Rattle.rb_ledger.specs.Seats.{WorkerSeat}
use Rattle.rb_chapter_ring.specs.declared.ring_record.RingRecord.{RingRecord}
use Rattle.rb_jobs.specs.SeatCalls.{IsOutAtSeat}
use Rattle.rb_jobs.specs.SeatHelpers.{AtSeats}

-- there is a seat at the record's ring, and the reservation is out there
pub record IsStillOut (h : AtSeats) (r : RingRecord) : Type 0 where
  pub seat : WorkerSeat
  pub seat_is : slice_get h.seats r.ring ≡ Some seat
  pub out : IsOutAtSeat seat r.reservation

-- a record's name: its ring, and the hand that it is in
abbrev pub record_name : RingRecord → ℕ × ℕ
record_name r = (r.ring, r.reservation.hand)
