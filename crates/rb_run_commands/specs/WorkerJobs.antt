-- The jobs of a run: each worker runs the program a number of times, each time with its own context (own).
use Rattle.std.specs.Prelude.{ℕ, ◌++◌, List, map}
use Rattle.std.specs.Int.{w64, to_le_bytes}
use Rattle.std.specs.List.{flat_map}
use Rattle.rb_history.specs.WorkerCounts.{numbers_below}
use Rattle.rb_jobs.specs.Jobs.{Task}
use Rattle.rb_verifier.specs.Subject.{Subject}

-- a job's context: the worker's number and the job's, each in eight bytes, little-endian
abbrev pub job_context : ℕ → ℕ → List ℕ
job_context worker job = to_le_bytes w64 worker ++ to_le_bytes w64 job

-- one job of a worker, by its number
abbrev pub numbered_task : Subject → ℕ → ℕ → Task
numbered_task subject worker job = record { worker = worker; program = subject; context = job_context worker job }

-- a worker's jobs, in the order of their numbers
abbrev pub worker_tasks : Subject → ℕ → ℕ → List Task
worker_tasks subject jobs worker = map (numbered_task subject worker) (numbers_below jobs)

-- the jobs of all workers, worker by worker
abbrev pub tasks_of_workers : Subject → ℕ → ℕ → List Task
tasks_of_workers subject workers jobs = flat_map (worker_tasks subject jobs) (numbers_below workers)
