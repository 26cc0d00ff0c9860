-- The room and the margin of a ring's chapters are enough.
use Rattle.std.proofs.Common.{ℕ, ◌-◌, ◌*◌, ◌/◌, ◌≤◌, arith}
use Rattle.std.proofs.Math.Nat.{div-le_of_le-mul, div-mul-le_self, le-div_iff_mul-le, mul-le-mul_left}
use Rattle.rb_history.specs.Span.{span}
use Rattle.rb_consumer.specs.BetweenLooks.{records_at_once}
use Rattle.rb_workers.specs.ChapterSizes.{IsEnoughFor, ChaptersFollowTheirRing}

-- this number of records at once leaves room for what is logged between two looks, whether or not the limit cuts the
-- room
enough : (size least : ℕ) → records_at_once size least ≤ size / 8 → records_at_once size least ≤ 294912 → IsEnoughFor size least
enough size least by_size by_room = record { room_is = omega (arith, by_size, by_room); margin_is = omega (arith, by_size, by_room) }

few : (size least most : ℕ) → size - 1 ≤ span least * most → records_at_once size least ≤ most
few size least most short = div-le_of_le-mul (span least) short

-- at most one record for each eight bytes
by-eights : (size least : ℕ) → records_at_once size least ≤ size / 8
by-eights size least =
    let many = records_at_once size least in
    let reach : many * span least ≤ size - 1 = div-mul-le_self (size - 1) (span least) in
    let each : many * 8 ≤ many * span least = mul-le-mul_left many (omega arith) in
    (le-div_iff_mul-le (omega arith)).1 (omega (arith, reach, each))

pub chapters-follow-their-ring : ChaptersFollowTheirRing
chapters-follow-their-ring = record {
  up_to_2_mib = λ size least small. enough size least (by-eights size least) (let few_by_size = by-eights size least in omega (arith, few_by_size, small));
  of_4_mib = λ least long. enough 4194304 least (by-eights 4194304 least) (few 4194304 least 294912 (omega (arith, long)));
  of_8_mib = λ least long. enough 8388608 least (by-eights 8388608 least) (few 8388608 least 294912 (omega (arith, long)));
  of_16_mib = λ least long. enough 16777216 least (by-eights 16777216 least) (few 16777216 least 294912 (omega (arith, long)));
  of_32_mib = λ least long. enough 33554432 least (by-eights 33554432 least) (few 33554432 least 294912 (omega (arith, long)));
  of_64_mib = λ least long. enough 67108864 least (by-eights 67108864 least) (few 67108864 least 294912 (omega (arith, long)));
}
