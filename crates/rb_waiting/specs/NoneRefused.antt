-- Rings that refused no record (own).
use Rattle.std.specs.Prelude.{◌≡◌, ◌+◌, ◌≤◌, ◌^◌, List}
use Rattle.std.specs.List.{All, count_by}
use Rattle.rb_history.specs.declared.entries.Entry.{Entry}
use Rattle.rb_history.specs.Counting.{is_refusal_entry}
use Rattle.rb_chapter_ring.specs.Chapters.{Chapter}
use Rattle.rb_chapter_ring.specs.ChapterCalls.{producer_by_chapter}
use Rattle.rb_chapter_ring.specs.WholeHistory.{IsBound}
use Rattle.rb_admission.specs.Admission.{asked_bytes}
use Rattle.rb_ledger.specs.Seats.{WorkerSeat}
use Rattle.rb_workers.specs.declared.opened.Ended.{Ended}

-- the worker has not requested a record from the ring yet, as for the seats of a newly opened ring
abbrev pub HasNotAsked : WorkerSeat → Type 0
HasNotAsked s = asked_bytes s.worker s.seen.history ≡ 0

-- the ring's positions stayed below 2^62 by at least the ring's size; beyond 2^62 no record is granted
abbrev pub StaysLow : {S : Type 0} → Ended S → Type 0
StaysLow ended = producer_by_chapter ended.closing.at_end + ended.closing.at_end.chapter.opening.setup.size ≤ 2 ^ 62

-- No worker was refused a record for lack of room: by its counts, and by every history to which the ring's chapters can
-- be bound.
pub record RefusesNoRecord {S : Type 0} (ended : Ended S) : Type 0 where
  pub tallies : All (λ t. t.refused ≡ 0) ended.tallies.items
  pub histories : (chapters : List Chapter) (history : List Entry) → IsBound chapters ended.closing.at_end.chapter history → count_by is_refusal_entry history ≡ 0
