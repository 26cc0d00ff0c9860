-- Upper bounds on what the rings of a world hold.
use Rattle.std.specs.Prelude.{◌≡◌, ℕ, ◌<◌, ◌≤◌, List, ◌∷◌, None, if◌then◌else◌}
use Rattle.std.specs.List.{All, sum_by}
use Rattle.rb_history.specs.declared.entries.Entry.{Entry}
use Rattle.rb_history.specs.Span.{span}
use Rattle.rb_history.specs.History.{records}
use Rattle.rb_history.specs.History.Status.{Busy}
use Rattle.rb_history.specs.Counting.{is_same}
use Rattle.rb_history.specs.WorkerCounts.{numbers_below}
use Rattle.rb_cost.specs.declared.cost.Cost.{Cost}
use Rattle.rb_cost.specs.Cost.{IsCost}
use Rattle.rb_cost.specs.Runs.{Moment, AreMoments, IsRunWithin, ring_cost_at}
use Rattle.rb_world.specs.declared.actor.Actor.{Actor}
use Rattle.rb_world.specs.Worlds.{WorkerStatus, Running, WorkerState, World}
use Rattle.rb_world.specs.Turns.{TurnEvent, WorldRun}
use Rattle.rb_world.specs.OpeningWorld.{IsOpeningWorld, IsActor}

-- the number of bytes that a ring's busy records take
abbrev pub busy_bytes : List Entry → ℕ
busy_bytes h = sum_by (λ s. if is_same s.status Busy then span s.len else 0) (records h)

-- a worker that no longer runs holds nothing
abbrev pub held_by_status : WorkerStatus → ℕ → ℕ
held_by_status Running n = n
held_by_status status n = 0

-- the number of bytes of a ring that a worker may hold, by the cost of its program
abbrev pub may_hold : World → (ℕ → Cost) → ℕ → ℕ → ℕ
may_hold world costs r w = held_by_status (world.workers w).status (ring_cost_at (costs w) r).held_bytes

-- in every interleaving, the busy records of a ring that all programs know take at most the bytes that its unfinished
-- workers may hold
abbrev pub BusyBytesAreBounded : Type 0
BusyBytesAreBounded =
    (first last : World) (actors : List Actor) (events : List TurnEvent) (costs : ℕ → Cost) (r : ℕ) → IsOpeningWorld first → All (IsActor first.worker_count) actors
    → WorldRun first actors events last → ((w : ℕ) → w < first.worker_count → IsCost (first.workers w).subject (costs w))
    → ((w : ℕ) → w < first.worker_count → r < (first.workers w).subject.rings)
    → busy_bytes (last.rings r).ring.history ≤ sum_by (may_hold last costs r) (numbers_below first.worker_count)

-- the moment of a worker before its next instruction
abbrev pub moment_of : WorkerState → Moment
moment_of x = record { state = x.state; answer = None }

-- Moments of a run of the program lead from one state of a worker to another, and the run stays within a cost.
pub record HasRunWithin (start now : WorkerState) (cost : Cost) : Type 0 where
  pub before : List Moment
  pub moments : AreMoments start.subject.program start.state (moment_of now ∷ before)
  pub within : IsRunWithin start.subject cost (moment_of now) before

-- in every interleaving, each running worker has stayed within the cost of its program at every moment of its run
abbrev pub WorkersStayWithin : Type 0
WorkersStayWithin =
    (first last : World) (actors : List Actor) (events : List TurnEvent) (w : ℕ) (cost : Cost) → IsOpeningWorld first → WorldRun first actors events last
    → w < first.worker_count → IsCost (first.workers w).subject cost → (last.workers w).status ≡ Running → HasRunWithin (first.workers w) (last.workers w) cost
