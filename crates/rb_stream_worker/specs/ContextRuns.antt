-- A worker of a stream: what it needs to run contexts, and what happened to the contexts that it was given (own).
use Rattle.std.specs.Prelude.{◌≡◌, ℕ, ◌-◌, ◌<◌, ◌≤◌, ◌==◌, true, false, List, [], ◌∷◌, ◌++◌, length, map, slice_index_or, vec_capacity}
use Rattle.std.specs.List.{All, filter, sum_by}
use Rattle.rb_verifier.specs.Subject.{Subject}
use Rattle.rb_ledger.specs.Seats.{Shared, WorkerSeat}
use Rattle.rb_jobs.specs.SeatHelpers.{AtRings}
use Rattle.rb_stream_worker.specs.Results.{CountsResults, IsNewResults, raised}
use Rattle.rb_stream_worker.specs.Tasks.{StreamTask, TaskRun, tasks_of, tasks_over}
use Rattle.rb_stream_worker.specs.Turns.{FitsRings, RunsAs}
use Rattle.rb_stream_worker.specs.declared.result_counts.ResultCounts.{ResultCounts}
use Rattle.rb_stream_worker.specs.declared.stream_counts.StreamCounts.{StreamCounts}
use Rattle.rb_stream_worker.specs.declared.stream_worker.StreamWorker.{StreamWorker}
use Rattle.rb_stream_worker.specs.declared.when_full.WhenFull.{WhenFull}

-- the program was verified for contexts of this length, and for rings that exist
abbrev pub IsProgramFor : ℕ → ℕ → Subject → Type 0
IsProgramFor rings ctx_len program = (program.rings ≤ rings) × (program.ctx_len ≡ ctx_len)

-- the worker has a seat at each ring and counts for each program, and each program may run there; if it takes turns, it has a limit for each ring
pub record IsReadyWorker {R K : Type 0} (w : StreamWorker R K) : Type 0 where
  pub at_rings : AtRings w.rings.now w.seats.items
  pub programs_fit : All (IsProgramFor (length w.rings.now) w.ctx_len) w.programs.now
  pub one_each : length w.counts.results.items ≡ length w.programs.now
  pub limits_fit : FitsRings w.full.now (length w.rings.now)

-- ---- what is counted

-- the results of the runs of one program, in order
abbrev pub results_of : ℕ → List TaskRun → List ℕ
results_of program runs = map (λ run. run.result) (filter (λ run. run.task.program == program) runs)

-- these runs were counted: for each program the results of its own runs, and the unlogged failures of all
pub record CountsRuns (runs : List TaskRun) (old new : StreamCounts) : Type 0 where
  pub as_many : length new.results.items ≡ length old.results.items
  pub results_are : (p : ℕ) (d : ResultCounts) → p < length old.results.items → CountsResults (results_of p runs) (slice_index_or old.results.items p d) (slice_index_or new.results.items p d)
  pub unlogged_is : new.unlogged ≡ raised old.unlogged (sum_by (λ run. run.unlogged) runs)

-- ---- what happened to contexts

-- a prefix of the programs, but not all, was run over the first of the contexts that were left; none over the others
abbrev pub IsBegun : ℕ → List StreamTask → List (List ℕ) → Type 0
IsBegun programs begun [] = begun ≡ []
IsBegun programs begun (context ∷ more) = (n : ℕ) × (n ≤ programs - 1) × (begun ≡ tasks_over n context)

-- A prefix of these contexts was run: every program over each, in order, each run once, which led from the old state of
-- the seats to the new one. The rest was left, and nothing was left unless the worker stopped. A worker that had
-- stopped before runs nothing. The runs were counted by their programs and results, and so were the contexts that were
-- run and those that were left.
pub record RunsContexts (full : WhenFull) (worker : ℕ) (programs : List Subject) (contexts : List (List ℕ)) (old new : List WorkerSeat) (before after : StreamCounts) : Type 0 where
  pub runs : List TaskRun
  pub done : List (List ℕ)
  pub left : List (List ℕ)
  pub begun : List StreamTask
  pub contexts_are : contexts ≡ done ++ left
  pub tasks_are : map (λ run. run.task) runs ≡ tasks_of (length programs) done ++ begun
  pub begun_of : IsBegun (length programs) begun left
  pub all_done : after.stopped ≡ false → left ≡ []
  pub stays : before.stopped ≡ true → (after.stopped ≡ true) × (done ≡ []) × (begun ≡ [])
  pub in_turn : RunsAs full worker programs runs old new
  pub counted : CountsRuns runs before after
  pub contexts_counted : after.contexts ≡ raised before.contexts (length done)
  pub left_counted : after.left ≡ raised before.left (length left)

-- the same worker, with the same rings, programs and length of contexts, and the same behaviour when a ring may be full
pub record IsSameWorker {R K : Type 0} (old new : StreamWorker R K) : Type 0 where
  pub number_same : new.number ≡ old.number
  pub rings_same : new.rings.now ≡ old.rings.now
  pub programs_same : new.programs.now ≡ old.programs.now
  pub length_same : new.ctx_len ≡ old.ctx_len
  pub full_same : new.full.now ≡ old.full.now

-- the worker was given these contexts, and ran them
pub record WorkerRuns {R K : Type 0} (old : StreamWorker R K) (contexts : List (List ℕ)) (new : StreamWorker R K) : Type 0 where
  pub same : IsSameWorker old new
  pub ran : RunsContexts old.full.now old.number old.programs.now contexts old.seats.items new.seats.items old.counts new.counts

-- ---- a worker that has not started

-- nothing was counted
pub record IsNewCounts (programs bound : ℕ) (counts : StreamCounts) : Type 0 where
  pub as_many : length counts.results.items ≡ programs
  pub results_are : (p : ℕ) (d : ResultCounts) → p < programs → IsNewResults bound (slice_index_or counts.results.items p d)
  pub unlogged_is : counts.unlogged ≡ 0
  pub contexts_are : counts.contexts ≡ 0
  pub left_is : counts.left ≡ 0
  pub goes_on : counts.stopped ≡ false

-- a worker with no seats yet and room for one at each ring, which has counted nothing
pub record IsNewWorker {R K : Type 0} (number : ℕ) (rings : List Shared) (programs : List Subject) (full : WhenFull) (ctx_len bound : ℕ) (w : StreamWorker R K) : Type 0 where
  pub number_is : w.number ≡ number
  pub rings_are : w.rings.now ≡ rings
  pub programs_are : w.programs.now ≡ programs
  pub length_is : w.ctx_len ≡ ctx_len
  pub full_is : w.full.now ≡ full
  pub no_seats : w.seats.items ≡ []
  pub has_room : length rings ≤ vec_capacity w.seats
  pub nothing_counted : IsNewCounts (length programs) bound w.counts
