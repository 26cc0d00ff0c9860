-- The room of a ring's chapters and how early they are handed out, by the ring's size; and that this is enough (own).
use Rattle.std.specs.Prelude.{ℕ, ◌+◌, ◌-◌, ◌*◌, ◌/◌, ◌≤◌, min, max}
use Rattle.rb_consumer.specs.BetweenLooks.{SufficesBetweenLooks}

-- the number of entries, with those that it owes, at which a chapter is handed out: few for a small ring, so that its
-- chapters use little memory
abbrev pub handed_out_at : ℕ → ℕ
handed_out_at size = min 32768 (max 8192 (size / 8))

-- the number of records after which the keeper looks: greater for a larger ring, because handing out a chapter takes
-- longer if more records wait
abbrev pub look_after : ℕ → ℕ
look_after size = min 32768 (max 4096 (size / 128))

-- Three entries for each record that the ring could have at once if all were empty, and for each record after which the
-- keeper looks; 32,768 for other entries between two looks; and those that the chapter has when it is handed out. A
-- chapter has room for at most 1,048,576 entries.
abbrev pub room_of : ℕ → ℕ
room_of size = min 1048576 (size / 8 * 3 + look_after size * 3 + 32768 + handed_out_at size)

abbrev pub margin_of : ℕ → ℕ
margin_of size = room_of size - handed_out_at size

-- the maximal number of records that are taken between two looks: one less than those after which the keeper looks, and
-- a batch of 512
abbrev pub takes_between_looks : ℕ → ℕ
takes_between_looks size = look_after size + 511

-- the maximal number of refusals by workers between two looks for which the chapter has room
abbrev pub refusals_between_looks : ℕ
refusals_between_looks = 31232

-- the room and the margin are enough for a ring of this size if its records have at least `least` bytes
abbrev pub IsEnoughFor : ℕ → ℕ → Type 0
IsEnoughFor size least = SufficesBetweenLooks (room_of size) (margin_of size) size least (takes_between_looks size) refusals_between_looks

-- They are enough for rings of up to 2 MiB with any records, and for larger ones whose records are at least this long.
-- A larger ring may have more short records at once than a chapter has room for.
pub record ChaptersFollowTheirRing : Type 0 where
  pub up_to_2_mib : (size least : ℕ) → size ≤ 2097152 → IsEnoughFor size least
  pub of_4_mib : (least : ℕ) → 1 ≤ least → IsEnoughFor 4194304 least
  pub of_8_mib : (least : ℕ) → 17 ≤ least → IsEnoughFor 8388608 least
  pub of_16_mib : (least : ℕ) → 49 ≤ least → IsEnoughFor 16777216 least
  pub of_32_mib : (least : ℕ) → 105 ≤ least → IsEnoughFor 33554432 least
  pub of_64_mib : (least : ℕ) → 217 ≤ least → IsEnoughFor 67108864 least
