-- Tasks that were all run and counted.
use Rattle.std.specs.Prelude.{◌≡◌, ℕ, ◌-◌, ◌≤◌, Bool, true, false, List, [], ◌∷◌, length, map}
use Rattle.rb_verifier.specs.Subject.{Subject}
use Rattle.rb_ledger.specs.Seats.{WorkerSeat}
use Rattle.rb_stream_worker.specs.Tasks.{StreamTask, TaskRun, RunsTasks, tasks_over}
use Rattle.rb_stream_worker.specs.ContextRuns.{CountsRuns}
use Rattle.rb_stream_worker.specs.declared.stream_counts.StreamCounts.{StreamCounts}

-- nothing but runs was counted
abbrev pub SameContexts : StreamCounts → StreamCounts → Type 0
SameContexts before after = (after.contexts ≡ before.contexts) × (after.left ≡ before.left) × (after.stopped ≡ before.stopped)

-- these tasks were run, each once and in order, and counted
pub record RanTasks (worker : ℕ) (programs : List Subject) (tasks : List StreamTask) (old new : List WorkerSeat) (before after : StreamCounts) : Type 0 where
  pub runs : List TaskRun
  pub tasks_are : map (λ run. run.task) runs ≡ tasks
  pub in_turn : RunsTasks worker programs runs old new
  pub counted : CountsRuns runs before after
  pub same : SameContexts before after

-- the task was run, or nothing was
abbrev pub TriesTask : Bool → ℕ → List Subject → StreamTask → List WorkerSeat → List WorkerSeat → StreamCounts → StreamCounts → Type 0
TriesTask true worker programs task old new before after = RanTasks worker programs (task ∷ []) old new before after
TriesTask false worker programs task old new before after = (new ≡ old) × (after ≡ before)

-- every program was run over the context, or only a prefix of the programs
abbrev pub TriesContext : Bool → ℕ → List Subject → List ℕ → List WorkerSeat → List WorkerSeat → StreamCounts → StreamCounts → Type 0
TriesContext true worker programs context old new before after = RanTasks worker programs (tasks_over (length programs) context) old new before after
TriesContext false worker programs context old new before after = (n : ℕ) × (n ≤ length programs - 1) × RanTasks worker programs (tasks_over n context) old new before after
