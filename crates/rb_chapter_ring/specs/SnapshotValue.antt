-- The view that contracts have of an opening as a value (own).
use Rattle.std.specs.Prelude.{ℕ}
use Rattle.rb_chapter_ring.specs.Snapshot.{Snapshot}

-- the summary; the number of records for which there is memory; and the number of records that were taken and still
-- occupy memory
pub record SnapshotValue : Type 0 where
  pub opening : Snapshot
  pub room : ℕ
  pub passed : ℕ
