-- What one more entry changes in the summary at a chapter's end.
use Rattle.std.specs.Prelude.{ℕ, ◌+◌, [], ◌∷◌, ◌++◌, drop}
use Rattle.std.specs.List.{slice_set as set}
use Rattle.rb_history.specs.Span.{span}
use Rattle.rb_history.specs.declared.tally.Tally.{Tally}
use Rattle.rb_history.specs.History.{Shown, Status}
use Rattle.rb_history.specs.History.Status.{Busy, Waiting, Discarded}
use Rattle.rb_chapter_ring.specs.Snapshot.{Snapshot, tally_at, record_in}
use Rattle.rb_chapter_ring.specs.declared.record_end.RecordEnd.{RecordEnd}
use Rattle.rb_chapter_ring.specs.RecordEnds.{status_of_end, tally_with_end}

-- the worker has these totals
abbrev pub with_tally : ℕ → Tally → Snapshot → Snapshot
with_tally w t o = record o { tallies = set o.tallies w t }

-- the worker was refused for lack of room
abbrev pub with_refusal : ℕ → Snapshot → Snapshot
with_refusal w o = with_tally w (record (tally_at o w) { refused = (tally_at o w).refused + 1 }) o

-- the record that the worker is granted next
abbrev pub next_record : ℕ → ℕ → Snapshot → Shown
next_record w n o = record { pos = o.producer; len = n; worker = w; serial = (tally_at o w).made; status = Busy }

-- the worker was granted a record of n bytes
abbrev pub with_grant : ℕ → ℕ → Snapshot → Snapshot
with_grant w n o =
    with_tally w (record (tally_at o w) { made = (tally_at o w).made + 1 }) (record o { producer = o.producer + span n; records = o.records ++ next_record w n o ∷ [] })

-- the record at an index has another status
abbrev pub with_status : ℕ → Status → Snapshot → Snapshot
with_status i st o = record o { records = set o.records i (record (record_in o i) { status = st }) }

-- the record at an index was committed in this way
abbrev pub with_end : RecordEnd → ℕ → Snapshot → Snapshot
with_end end i o = with_tally (record_in o i).worker (tally_with_end end (tally_at o (record_in o i).worker)) (with_status i (status_of_end end) o)

-- 1 if the record was returned; and 1 if it was skipped
abbrev pub events_by : Status → ℕ
events_by Waiting = 1
events_by _ = 0

abbrev pub skips_by : Status → ℕ
skips_by Discarded = 1
skips_by _ = 0

-- the record at the front was taken
abbrev pub with_take : Snapshot → Snapshot
with_take o =
    record o {
      consumer = o.consumer + span (record_in o 0).len;
      records = drop 1 o.records;
      consumed = o.consumed + events_by (record_in o 0).status;
      skipped = o.skipped + skips_by (record_in o 0).status;
    }
