-- The effect of jobs on the seats of their worker (own).
use Rattle.std.specs.Prelude.{◌≡◌, ℕ, ◌==◌, List, [], ◌∷◌, Bool, true, false, Result, Ok, Err}
use Rattle.std.specs.List.{filter}
use Rattle.rb_interp.specs.AnsweredCalls.{AnsweredCall}
use Rattle.rb_interp.specs.declared.fault.RunFault.{RunFault}
use Rattle.rb_interp.specs.declared.fault.RunFault.TheVariants.{ContextLength, Stray}
use Rattle.rb_ledger.specs.Seats.{WorkerSeat}
use Rattle.rb_chapter_ring.specs.declared.ring_record.RingRecord.{RingRecord}
use Rattle.rb_jobs.specs.declared.job.Job.{Job}
use Rattle.rb_jobs.specs.declared.job.JobAnswer.{JobAnswer}
use Rattle.rb_jobs.specs.Jobs.{JobRan, task_of}

-- one run: the job, its result, and its calls with their answers
pub record JobRun : Type 0 where
  pub job : Job
  pub answer : JobAnswer
  pub calls : List (AnsweredCall RingRecord)

-- the job was run, had this result and made these calls, which led from the old state of its worker's seats to the new
-- one
abbrev pub RunsJob : JobRun → List WorkerSeat → List WorkerSeat → Type 0
RunsJob run old new = (ran : JobRan (task_of run.job) run.answer old new) × (ran.calls ≡ run.calls)

-- the runs, one after another, led from the old state of the seats to the new one
abbrev pub RunsInTurn : List JobRun → List WorkerSeat → List WorkerSeat → Type 0
RunsInTurn [] old new = new ≡ old
RunsInTurn (run ∷ runs) old new = (mid : List WorkerSeat) × RunsJob run old mid × RunsInTurn runs mid new

-- the worker's own jobs, in the list's order
abbrev pub own_jobs : ℕ → List Job → List Job
own_jobs worker jobs = filter (λ j. j.worker == worker) jobs

-- the runs of the worker's own jobs, in the list's order
abbrev pub own_runs : ℕ → List JobRun → List JobRun
own_runs worker runs = filter (λ run. run.job.worker == worker) runs

-- the run ended with a stray record
abbrev pub is_stray : Result ℕ RunFault → Bool
is_stray (Ok n) = false
is_stray (Err ContextLength) = false
is_stray (Err Stray) = true
