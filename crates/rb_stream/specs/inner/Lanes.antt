-- The lanes of a stream, and the seats of their workers.
use Rattle.std.specs.Prelude.{◌≡◌, ℕ, ◌<◌, List, length, slice_index_or}
use Rattle.rb_verifier.specs.Subject.{Subject}
use Rattle.rb_ledger.specs.Seats.{Shared}
use Rattle.rb_dealing.specs.Queues.{AreEmptyQueues, AreFeedsOf}
use Rattle.rb_dealing.specs.declared.lane.Lane.{Lane}
use Rattle.rb_stream_worker.specs.ContextRuns.{IsNewWorker}
use Rattle.rb_stream_worker.specs.declared.stream_worker.StreamWorker.{StreamWorker}
use Rattle.rb_stream_worker.specs.declared.when_full.WhenFull.{WhenFull}
use Rattle.rb_workers.specs.declared.workers.Worker.{Worker}
use Rattle.rb_stream.specs.declared.lanes.Lanes.{Lanes}

-- a lane for each worker, with empty queues; the workers have no seats yet and have counted nothing
pub record AreNewLanes {R K : Type 0} (count : ℕ) (rings : List Shared) (programs : List Subject) (full : WhenFull) (ctx_len bound : ℕ) (l : Lanes R K) : Type 0 where
  pub as_many : length l.lanes.items ≡ count
  pub pairs : AreFeedsOf l.feeds.items l.lanes.items
  pub empty : AreEmptyQueues l.feeds.items l.lanes.items
  pub new : (k : ℕ) (d : Lane (StreamWorker R K)) → k < count → IsNewWorker k rings programs full ctx_len bound (slice_index_or l.lanes.items k d).worker

-- the worker has the seats of the worker in the lane, and vice versa
abbrev pub SwapsOne : {R K : Type 0} → Worker → Worker → Lane (StreamWorker R K) → Lane (StreamWorker R K) → Type 0
SwapsOne old new lane later = (new ≡ record old { seats = lane.worker.seats }) × (later ≡ record lane { worker = record lane.worker { seats = old.seats } })

-- each worker exchanged its seats with the worker in its lane
abbrev pub SwapsSeats : {R K : Type 0} → List Worker → List Worker → List (Lane (StreamWorker R K)) → List (Lane (StreamWorker R K)) → Type 0
SwapsSeats {R} {K} olds news lanes later =
    (k : ℕ) (d : Worker) (e : Lane (StreamWorker R K)) → k < length lanes → SwapsOne (slice_index_or olds k d) (slice_index_or news k d) (slice_index_or lanes k e) (slice_index_or later k e)
