-- The contexts of a run's jobs.
use Rattle.std.specs.Prelude.{ℕ, List, map}
use Rattle.std.specs.List.{flat_map}
use Rattle.rb_history.specs.WorkerCounts.{numbers_below}
use Rattle.rb_jobs.specs.Jobs.{Task}
use Rattle.rb_verifier.specs.Subject.{Subject}
use Rattle.rb_run_commands.specs.WorkerJobs.{job_context}
use Rattle.rb_run_commands.specs.declared.worker_jobs.JobContext.{JobContext}

-- the context of one job of a worker
abbrev pub numbered_context : ℕ → ℕ → JobContext
numbered_context worker job = record { worker = worker; bytes = job_context worker job }

-- the contexts of one worker's jobs, in the order of their numbers
abbrev pub worker_contexts : ℕ → ℕ → List JobContext
worker_contexts jobs worker = map (numbered_context worker) (numbers_below jobs)

-- the contexts of all workers' jobs
abbrev pub contexts_of_workers : ℕ → ℕ → List JobContext
contexts_of_workers workers jobs = flat_map (worker_contexts jobs) (numbers_below workers)

-- the job that runs the program with a context
abbrev pub task_over : Subject → JobContext → Task
task_over subject own = record { worker = own.worker; program = subject; context = own.bytes }
