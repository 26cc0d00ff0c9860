-- Whether all records that were made are submitted or discarded (own).
use Rattle.std.specs.Prelude.{◌≡◌, ℕ, ◌+◌, ◌<◌, List, All}
use Rattle.rb_history.specs.declared.tally.Tally.{Tally}
use Rattle.rb_chapter_ring.specs.OpenedRing.{told_counts}
use Rattle.rb_ledger.specs.Seats.{WorkerSeat}
use Rattle.rb_jobs.specs.SeatHelpers.{made_in, submitted_in, discarded_in}
use Rattle.rb_workers.specs.declared.opened.Ended.{Ended}
use Rattle.rb_workers.specs.SeatRows.{worker_column}

-- these seats together submitted or discarded all records that they made
abbrev pub AreSettled : List WorkerSeat → Type 0
AreSettled seats = made_in seats ≡ submitted_in seats + discarded_in seats

-- the same for each worker's seats
abbrev pub EachSettled : ℕ → List (List WorkerSeat) → Type 0
EachSettled count seats = (worker : ℕ) → worker < count → AreSettled (worker_column worker seats)

-- all records that were made are submitted or discarded
abbrev pub IsEven : Tally → Type 0
IsEven t = t.made ≡ t.submitted + t.discarded

-- each of the ring's seats submitted or discarded all that it made, and by the counts that the closed ring reports no
-- record is busy
pub record EndsSettled {S : Type 0} (ended : Ended S) : Type 0 where
  pub tallies_even : All IsEven ended.tallies.items
  pub none_busy : (told_counts ended.closing.at_end).busy ≡ 0
