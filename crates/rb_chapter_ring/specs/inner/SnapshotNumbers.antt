-- The numbers that an opening stores.
use Rattle.std.specs.Prelude.{ℕ}
use Rattle.rb_chapter_ring.specs.declared.snapshot.numbers.SnapshotNumbers.{SnapshotNumbers}

-- those of a new ring
abbrev pub first_numbers : ℕ → ℕ → ℕ → SnapshotNumbers
first_numbers size start workers = record { size = size; start = start; workers = workers; producer = start; consumer = start; consumed = 0; skipped = 0 }
