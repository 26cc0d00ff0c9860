-- The ring whose records are a plain list: its meaning, and its invariant between calls.
use Rattle.std.specs.Prelude.{◌≡◌, ◌+◌, ◌-◌, ◌≤◌, ◌^◌, map, vec_len, vec_capacity}
use Rattle.std.specs.List.{sum_by, All}
use Rattle.rb_for_tests.specs.declared.plain_ring.PlainRing.TheInside.{Inside}
use Rattle.rb_history.specs.RoomRule.{Setup}
use Rattle.rb_history.specs.RingModel.{Ring, IsRingSize, IsStartPosition, IsWorkerCount}
use Rattle.rb_history.specs.inner.RecordRows.{HistoryFacts}
use Rattle.rb_history.specs.StoredRecords.{shown_record, contents_of, entries_owed, state_status, IsSized}
use Rattle.rb_history.specs.inner.GrantCounts.{CountsGrants}

abbrev pub list_ring_setup : Inside → Setup
list_ring_setup a = record { size = a.size; start = a.start; workers = a.workers }

abbrev pub list_ring_shown : Inside → Ring
list_ring_shown a = record {
  setup = list_ring_setup a;
  history = a.history.items;
  contents = contents_of a.records.items;
  shown = map shown_record a.records.items;
  producer = a.producer;
  consumer = a.consumer;
}

pub record ListRingInvariant (a : Inside) : Type 0 where
  pub size : IsRingSize a.size
  pub start : IsStartPosition a.start
  pub workers : IsWorkerCount a.workers
  pub limit : a.producer ≤ 2 ^ 62
  pub space : a.producer ≤ a.consumer + (a.size - 1)
  pub kept : HistoryFacts (list_ring_setup a) a.history.items (map shown_record a.records.items) a.producer a.consumer
  pub sized : All IsSized a.records.items
  pub tallied : CountsGrants a.serials.items a.history.items a.workers
  pub owed_is : a.owed ≡ sum_by (λ s. entries_owed (state_status s.state)) a.records.items
  pub room : vec_len a.history + a.owed ≤ vec_capacity a.history
