-- The summary of a ring's history at a point: everything that is needed to continue from there (own).
use Rattle.std.specs.Prelude.{ℕ, List, map}
use Rattle.std.specs.List.{sum_by, count_by, slice_index_or as get_or}
use Rattle.rb_history.specs.declared.entries.Entry.{Entry}
use Rattle.rb_history.specs.declared.answers.Counts.{Counts}
use Rattle.rb_history.specs.History.{Shown, Status, producer_of, consumer_of, records}
use Rattle.rb_history.specs.History.Status.{Busy, Waiting, Discarded}
use Rattle.rb_history.specs.Counting.{is_same}
use Rattle.rb_history.specs.RoomRule.{Setup}
use Rattle.rb_history.specs.declared.tally.Tally.{Tally}
use Rattle.rb_history.specs.WorkerCounts.{tally_of, events_of, skips_of, numbers_below}

-- The ring's parameters; the positions of the next grant and of the next take; the records that were not taken, in
-- order, as a state shows them; each worker's totals, by its number; and how many takes returned a record and how many
-- skipped one.
pub record Snapshot : Type 0 where
  pub setup : Setup
  pub producer : ℕ
  pub consumer : ℕ
  pub records : List Shown
  pub tallies : List Tally
  pub consumed : ℕ
  pub skipped : ℕ

-- the summary of a whole history at its end
abbrev pub snapshot_of : Setup → List Entry → Snapshot
snapshot_of r h = record {
  setup = r;
  producer = producer_of r.start h;
  consumer = consumer_of r.start h;
  records = records h;
  tallies = map (λ w. tally_of w h) (numbers_below r.workers);
  consumed = events_of h;
  skipped = skips_of h;
}

-- the totals of a worker without entries
abbrev pub no_tally : Tally
no_tally = record { made = 0; refused = 0; submitted = 0; discarded = 0 }

-- a worker's totals
abbrev pub tally_at : Snapshot → ℕ → Tally
tally_at o w = get_or o.tallies w no_tally

-- no record
abbrev pub no_record : Shown
no_record = record { pos = 0; len = 0; worker = 0; serial = 0; status = Discarded }

-- the record at an index, counted from the front
abbrev pub record_in : Snapshot → ℕ → Shown
record_in o i = get_or o.records i no_record

-- the number of records with this status
abbrev pub shown_count : Status → List Shown → ℕ
shown_count st ss = count_by (λ s. is_same st s.status) ss

-- the six counts of the history that the opening summarizes
abbrev pub counts_at : Snapshot → Counts
counts_at o = record {
  made = sum_by (λ t. t.made) o.tallies;
  refused = sum_by (λ t. t.refused) o.tallies;
  consumed = o.consumed;
  discarded = sum_by (λ t. t.discarded) o.tallies;
  waiting = shown_count Waiting o.records;
  busy = shown_count Busy o.records;
}
