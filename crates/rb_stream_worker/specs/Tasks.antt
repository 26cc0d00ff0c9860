-- What a worker of a stream runs: each program over each context, and the effect of these runs on its seats (own).
use Rattle.std.specs.Prelude.{◌≡◌, ℕ, List, [], ◌∷◌, map, flat_map, slice_get, Some, Ok}
use Rattle.std.specs.List.{range_with_len}
use Rattle.rb_verifier.specs.Subject.{Subject}
use Rattle.rb_interp.specs.AnsweredCalls.{AnsweredCall}
use Rattle.rb_ledger.specs.Seats.{WorkerSeat}
use Rattle.rb_chapter_ring.specs.declared.ring_record.RingRecord.{RingRecord}
use Rattle.rb_jobs.specs.Jobs.{JobRan}

-- a program, by its number in the list of programs, and the context over which it runs
pub record StreamTask : Type 0 where
  pub program : ℕ
  pub context : List ℕ

-- the first `count` programs over a context, in the order of their numbers
abbrev pub tasks_over : ℕ → List ℕ → List StreamTask
tasks_over count context = map (λ p. record { program = p; context = context }) (range_with_len 0 count)

-- each context in order, and each of the `count` programs over it
abbrev pub tasks_of : ℕ → List (List ℕ) → List StreamTask
tasks_of count contexts = flat_map (tasks_over count) contexts

-- one run: what was run, the number that the program returned, how many of its failures no entry of a ring explains,
-- and its helper calls with their answers
pub record TaskRun : Type 0 where
  pub task : StreamTask
  pub result : ℕ
  pub unlogged : ℕ
  pub calls : List (AnsweredCall RingRecord)

-- The worker ran this program over this context. The run follows the semantics with the answers of its calls, it
-- returned a number, and it led from the old state of the worker's seats to the new one.
pub record RunsTask (worker : ℕ) (programs : List Subject) (run : TaskRun) (old new : List WorkerSeat) : Type 0 where
  pub program : Subject
  pub found : slice_get programs run.task.program ≡ Some program
  pub ran : JobRan (record { worker = worker; program = program; context = run.task.context }) (record { result = Ok run.result; unlogged = run.unlogged }) old new
  pub calls_are : ran.calls ≡ run.calls

-- the runs, one after another, led from the old state of the seats to the new one
abbrev pub RunsTasks : ℕ → List Subject → List TaskRun → List WorkerSeat → List WorkerSeat → Type 0
RunsTasks worker programs [] old new = new ≡ old
RunsTasks worker programs (run ∷ runs) old new = (mid : List WorkerSeat) × RunsTask worker programs run old mid × RunsTasks worker programs runs mid new
