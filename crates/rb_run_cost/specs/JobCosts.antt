-- Upper bounds on what jobs request from their rings: the requests that they leave in the rings' histories are within
-- the costs of their programs (own).
use Rattle.std.specs.Prelude.{◌≡◌, ℕ, ◌<◌, ◌≤◌, List, sum_by, slice_get, Some}
use Rattle.rb_history.specs.Span.{span}
use Rattle.rb_run_cost.specs.CallCosts.{IsVerified}
use Rattle.rb_cost.specs.declared.cost.Cost.{Cost}
use Rattle.rb_cost.specs.Cost.{IsCost}
use Rattle.rb_cost.specs.Runs.{ring_cost_at}
use Rattle.rb_ledger.specs.Seats.{WorkerSeat}
use Rattle.rb_jobs.specs.declared.job.JobAnswer.{JobAnswer}
use Rattle.rb_jobs.specs.Jobs.{Task, JobRan}
use Rattle.rb_run_cost.specs.JobRequests.{Request, AddsRequests}

-- the number of bytes that requests ask for: the spans of their records, granted and refused alike
abbrev pub requested_bytes : List Request → ℕ
requested_bytes left = sum_by (λ q. span q.len) left

-- A job led from one state of its worker's seat at a ring to another. The requests that it left there take at most the
-- bytes in its program's cost for the ring.
pub record AsksWithin (ring : ℕ) (cost : Cost) (before : WorkerSeat) (new : List WorkerSeat) : Type 0 where
  pub after : WorkerSeat
  pub left : List Request
  pub is_there : slice_get new ring ≡ Some after
  pub adds : AddsRequests before after left
  pub within : requested_bytes left ≤ (ring_cost_at cost ring).bytes

-- this holds for every job of a verified program, at each ring that the program knows, whatever its calls are answered
abbrev pub JobsAskWithin : Type 0
JobsAskWithin =
    (task : Task) (answer : JobAnswer) (old new : List WorkerSeat) (cost : Cost) (ring : ℕ) (before : WorkerSeat) → JobRan task answer old new → IsVerified task.program
    → IsCost task.program cost → ring < task.program.rings → slice_get old ring ≡ Some before → AsksWithin ring cost before new
