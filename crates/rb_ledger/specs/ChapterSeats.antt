-- The view that contracts have of the consumer's seat at a shared ring with chapters (own). A worker's seat is seen as
-- at any shared ring.
use Rattle.std.specs.Prelude.{◌≡◌, ℕ, ◌<◌, ◌^◌, List, [], Option, None, length}
use Rattle.std.specs.FinMap.{empty}
use Rattle.atomic_table.specs.Seated.{TableId}
use Rattle.rb_history.specs.declared.entries.Entry.{Entry}
use Rattle.rb_history.specs.RingModel.{Contents}
use Rattle.rb_chapter_ring.specs.Chapters.{Chapter, joined}
use Rattle.rb_ledger.specs.Roles.{Book}
use Rattle.rb_ledger.specs.Seats.{ConsumerSeatValue}
use Rattle.rb_ledger.specs.ChapteredRing.{ChapteredRing}
use Rattle.rb_ledger.specs.ChapterKnowledge.{whole_out}

-- The consumer's seat: the tag and the ring with which it was opened; the room of each chapter; its counts; the book of
-- the whole history as it last saw it; the bytes that it took as events, by position; the chapters that were handed
-- out, the oldest first; and the ring's state if the seat holds it.
pub record ChapterConsumerSeat : Type 0 where
  pub tag : ℕ
  pub ring : TableId
  pub room : ℕ
  pub consumed : ℕ
  pub skipped : ℕ
  pub position : ℕ
  pub seen : Book
  pub got : Contents
  pub handed_out : List Chapter
  pub out : Option ChapteredRing

-- the entries that were handed out, the oldest first
abbrev pub entries_out : ChapterConsumerSeat → List Entry
entries_out s = joined s.handed_out

-- the same, for the ring with its whole history
abbrev pub whole_consumer : ChapterConsumerSeat → ConsumerSeatValue
whole_consumer s = record { tag = s.tag; ring = s.ring; consumed = s.consumed; skipped = s.skipped; position = s.position; seen = s.seen; got = s.got; out = whole_out s.out }

-- the consumer's seat at a ring that was just opened
abbrev pub fresh_chapter_consumer : ℕ → TableId → ℕ → Book → ChapterConsumerSeat
fresh_chapter_consumer tag ring room seen =
    record { tag = tag; ring = ring; room = room; consumed = 0; skipped = 0; position = seen.setup.start; seen = seen; got = empty; handed_out = []; out = None }

-- the ring may continue in this chapter: it has no entries, the ring's room and number of workers, and there is a next
-- chapter number
pub record IsFitChapter (s : ChapterConsumerSeat) (c : Chapter) : Type 0 where
  pub no_entries : c.entries ≡ []
  pub room_same : c.room ≡ s.room
  pub workers_same : c.opening.setup.workers ≡ s.seen.setup.workers
  pub next_number : length s.handed_out < 2 ^ 62
