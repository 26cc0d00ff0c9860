-- One look at a ring.
use Rattle.std.specs.Prelude.{◌≡◌, ℕ}
use Rattle.rb_history.specs.declared.notices_and_queries.TheConstants.{AVAIL_DATA}
use Rattle.rb_history.specs.NoticesAndQueries.{query_answer}
use Rattle.rb_ledger.specs.Seats.{WorkerSeat}
use Rattle.rb_stream_worker.specs.Turns.{SeesMore}

-- by what the seat has then seen, the ring had this number of untaken bytes
pub record LooksAt (untaken : ℕ) (old new : WorkerSeat) : Type 0 where
  pub sees : SeesMore old new
  pub untaken_is : untaken ≡ query_answer new.seen.setup new.seen.history AVAIL_DATA
