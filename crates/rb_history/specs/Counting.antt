-- The counts of a history: each is the length of a filter.
use Rattle.std.specs.Prelude.{ℕ, List, Bool, true, false}
use Rattle.std.specs.List.{count_by}
use Rattle.rb_history.specs.declared.entries.Entry.{Entry}
use Rattle.rb_history.specs.declared.entries.Entry.TheVariants.{Res, Full, Dis}
use Rattle.rb_history.specs.declared.answers.Counts.{Counts}
use Rattle.rb_history.specs.History.{Status, status_of}
use Rattle.rb_history.specs.History.Status.{Busy, Waiting, Consumed, Discarded}

abbrev pub is_grant_entry : Entry → Bool
is_grant_entry (Res w k n p) = true
is_grant_entry _ = false

abbrev pub is_refusal_entry : Entry → Bool
is_refusal_entry (Full w n) = true
is_refusal_entry _ = false

abbrev pub is_discard_entry : Entry → Bool
is_discard_entry (Dis p) = true
is_discard_entry _ = false

abbrev pub is_same : Status → Status → Bool
is_same Busy Busy = true
is_same Waiting Waiting = true
is_same Consumed Consumed = true
is_same Discarded Discarded = true
is_same _ _ = false

-- the entry grants a record whose current status is this one
abbrev pub has_status : Status → List Entry → Entry → Bool
has_status st h (Res w k n p) = is_same st (status_of h p)
has_status st h _ = false

-- the number of records with this status
abbrev pub status_count : Status → List Entry → ℕ
status_count st h = count_by (has_status st h) h

-- the six counts of a history
abbrev pub counts_of : List Entry → Counts
counts_of h = record {
  made = count_by is_grant_entry h;
  refused = count_by is_refusal_entry h;
  consumed = status_count Consumed h;
  discarded = status_count Discarded h;
  waiting = status_count Waiting h;
  busy = status_count Busy h;
}
