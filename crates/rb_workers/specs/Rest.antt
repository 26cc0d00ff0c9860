-- What is left in a ring at its end (own).
use Rattle.std.specs.Prelude.{◌≡◌, All}
use Rattle.rb_chapter_ring.specs.OpenedRing.{told_counts}
use Rattle.rb_ledger.specs.Seats.{HasSettledAll, all_discarded, all_submitted}
use Rattle.rb_workers.specs.declared.opened.Opened.{Opened}
use Rattle.rb_workers.specs.declared.opened.Ended.{Ended}

-- if each seat submitted or discarded every record that it made, the consumer took all that they submitted and skipped
-- all that they discarded
abbrev pub IsDrained : {S : Type 0} → Opened S → Type 0
IsDrained o = All HasSettledAll o.seats.items → (o.consumer.consumed ≡ all_submitted o.seats.items) × (o.consumer.skipped ≡ all_discarded o.seats.items)

-- if no record of the closed ring is busy, none waits: each submitted record was taken (ringbuf.rst: a busy record
-- holds back those after it)
abbrev pub LeavesNothing : {S : Type 0} → Ended S → Type 0
LeavesNothing ended = (told_counts ended.closing.at_end).busy ≡ 0 → (told_counts ended.closing.at_end).waiting ≡ 0
