-- The rings over which a program is checked: each has 4,096 bytes, one worker, and chapters with room for 65,536
-- entries, starts at position 0, and was just opened (own).
use Rattle.std.specs.Prelude.{◌≡◌, ℕ, List, map}
use Rattle.rb_history.specs.WorkerCounts.{numbers_below}
use Rattle.rb_ledger.specs.Seats.{Shared, WorkerSeat, fresh_book, fresh_seat}
use Rattle.rb_ledger.specs.ChapterSeats.{ChapterConsumerSeat, fresh_chapter_consumer}

-- the seat of a ring's only worker
abbrev pub fresh_worker : Shared → WorkerSeat
fresh_worker ring = fresh_seat ring.tag ring.ring 65536 0 (fresh_book 4096 0 1)

-- the seat of a ring's consumer, which has handed no chapter out
abbrev pub fresh_taker : Shared → ChapterConsumerSeat
fresh_taker ring = fresh_chapter_consumer ring.tag ring.ring 65536 (fresh_book 4096 0 1)

-- this many rings, each tagged with its number
abbrev pub AreNumbered : ℕ → List Shared → Type 0
AreNumbered count rings = map (λ ring. ring.tag) rings ≡ numbers_below count
