-- The bytes of a record that one of several rings granted, which are those of its reservation (own).
use Rattle.std.specs.Prelude.{ℕ, List}
use Rattle.rb_lend.specs.Ranges.{in_place_of}
use Rattle.rb_chapter_ring.specs.declared.ring_record.RingRecord.{RingRecord}

abbrev pub reserved_bytes : RingRecord → List ℕ
reserved_bytes owned = owned.reservation.granted.bytes

-- the record with these bytes written to it
abbrev pub with_record_bytes : RingRecord → List ℕ → RingRecord
with_record_bytes owned bytes = record owned { reservation = record owned.reservation { granted = record owned.reservation.granted { bytes = in_place_of owned.reservation.granted.bytes bytes } } }
