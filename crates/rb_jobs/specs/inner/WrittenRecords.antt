-- A record stays kept after a write to it.
use Rattle.std.proofs.Common.{◌≡◌, ℕ, List, Some, length, sym, subst, length-append, arith}
use Rattle.std.proofs.lemmas.List.{length-take, length-drop}
use Rattle.rb_lend.specs.Ranges.{in_place_of}
use Rattle.rb_chapter_ring.specs.Hands.{out_record, in_hand}
use Rattle.rb_chapter_ring.specs.declared.ring_record.RingRecord.{RingRecord}
use Rattle.rb_chapter_ring.specs.RingRecords.{with_record_bytes}
use Rattle.rb_jobs.specs.SeatHelpers.{AtSeats}
use Rattle.rb_jobs.specs.KeptRecords.{IsStillOut}

same_length : (old new : List ℕ) → length (in_place_of old new) ≡ length old
same_length old new = grind (arith, length-append, length-take, length-drop)

pub kept_written : (h : AtSeats) (r : RingRecord) (w : List ℕ) → IsStillOut h r → IsStillOut h (with_record_bytes r w)
kept_written h r w kept = record {
  seat = kept.seat;
  seat_is = kept.seat_is;
  out = record {
    tag_is = kept.out.tag_is;
    worker_is = kept.out.worker_is;
    out = subst (λ n. in_hand kept.seat.hands r.reservation.hand ≡ Some (out_record r.reservation.granted.pos r.reservation.granted.serial n)) (sym (same_length r.reservation.granted.bytes w)) kept.out.out;
  };
}
