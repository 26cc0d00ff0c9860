-- The meaning of an opening's fields, and their invariant.
use Rattle.std.specs.Prelude.{◌≡◌, ◌≤◌, map, drop, length, vec_len, vec_capacity}
use Rattle.rb_chapter_ring.specs.declared.snapshot.Snapshot.TheInside.{Inside}
use Rattle.rb_chapter_ring.specs.UntakenRecords.{untaken_shown}
use Rattle.rb_chapter_ring.specs.Snapshot.{Snapshot}
use Rattle.rb_chapter_ring.specs.SnapshotValue.{SnapshotValue}

abbrev pub opening_shown : Inside → Snapshot
opening_shown a = record {
  setup = record { size = a.numbers.size; start = a.numbers.start; workers = a.numbers.workers };
  producer = a.numbers.producer;
  consumer = a.numbers.consumer;
  records = map untaken_shown (drop a.first a.records.items);
  tallies = a.tallies.items;
  consumed = a.numbers.consumed;
  skipped = a.numbers.skipped;
}

abbrev pub opening_value : Inside → SnapshotValue
opening_value a = record { opening = opening_shown a; room = vec_capacity a.records; passed = a.first }

-- there are totals for each worker, and the index of the first untaken record is at most the length of the list
pub record OpeningInvariant (a : Inside) : Type 0 where
  pub workers : length a.tallies.items ≡ a.numbers.workers
  pub first : a.first ≤ vec_len a.records
