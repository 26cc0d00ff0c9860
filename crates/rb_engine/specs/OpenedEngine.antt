-- The rings of a newly opened engine (own).
use Rattle.std.specs.Prelude.{ℕ, ◌*◌, ◌/◌, min}
use Rattle.rb_chapter_ring.specs.HandRing.{HandRing, hand_ring}
use Rattle.rb_chapter_ring.specs.Hands.{free_book}
use Rattle.rb_chapter_ring.specs.OpenedRing.{opened_ring}

-- the room of a chapter of a ring of this size, in entries: three for each record that the ring can hold, and at most
-- 2^20
abbrev pub chapter_room : ℕ → ℕ
chapter_room size = min (size / 8 * 3) 1048576

-- a ring of this size without records, whose only worker, the engine, has four free hands; its first position is 0
abbrev pub fresh_ring : ℕ → HandRing
fresh_ring size = hand_ring (opened_ring (chapter_room size) (record { size = size; start = 0; workers = 1 })) (free_book 1)
