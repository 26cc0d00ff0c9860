-- The effect of a run on workers, their seats and their answers.
use Rattle.std.specs.Prelude.{◌≡◌, ℕ, ◌<◌, ◌≤◌, ◌==◌, List, [], ◌∷◌, ◌++◌, Bool, true, false, cond, vec_len, vec_capacity}
use Rattle.rb_ledger.specs.Seats.{Shared, WorkerSeat}
use Rattle.rb_jobs.specs.SeatHelpers.{AtRings}
use Rattle.rb_jobs.specs.declared.job.Job.{Job}
use Rattle.rb_jobs.specs.declared.job.JobAnswer.{JobAnswer}
use Rattle.rb_jobs.specs.Jobs.{JobRan, task_of}
use Rattle.rb_workers.specs.declared.workers.Worker.{Worker}
use Rattle.rb_workers.specs.JobRuns.{own_jobs}

-- the jobs, one after another, gave the answers, and led from the old state of the seats to the new one
abbrev pub RunsJobs : List Job → List JobAnswer → List WorkerSeat → List WorkerSeat → Type 0
RunsJobs [] [] old new = new ≡ old
RunsJobs [] (a ∷ rest) old new = ⊥
RunsJobs (j ∷ js) [] old new = ⊥
RunsJobs (j ∷ js) (a ∷ rest) old new = (mid : List WorkerSeat) × JobRan (task_of j) a old mid × RunsJobs js rest mid new

-- of the answers, which are in the order of the jobs, those of the worker's own jobs
abbrev pub own_answers : ℕ → List Job → List JobAnswer → List JobAnswer
own_answers worker [] answers = []
own_answers worker (j ∷ js) [] = []
own_answers worker (j ∷ js) (a ∷ rest) = cond (j.worker == worker) (a ∷ own_answers worker js rest) (own_answers worker js rest)

-- the worker can take one more seat without an allocation
abbrev pub HasSpareSeat : Worker → Type 0
HasSpareSeat worker = vec_len worker.seats < vec_capacity worker.seats

-- the second worker is the first with one more seat
abbrev pub IsOneMore : Worker → Worker → WorkerSeat → Type 0
IsOneMore few more seat =
    (more.number ≡ few.number) × (more.short ≡ few.short) × (more.answers ≡ few.answers)
    × (more.seats.items ≡ few.seats.items ++ seat ∷ []) × (vec_capacity few.seats ≤ vec_capacity more.seats)

-- the second worker is the first with one more answer
abbrev pub IsOneAnswerMore : Worker → Worker → JobAnswer → Type 0
IsOneAnswerMore few more answer = more.answers.items ≡ few.answers.items ++ answer ∷ []

-- a worker with no seat yet, and room for one at each ring
abbrev pub IsNew : ℕ → ℕ → Worker → Type 0
IsNew number rings worker = (worker.number ≡ number) × (worker.short ≡ false) × (worker.answers.items ≡ []) × (worker.seats.items ≡ []) × (rings ≤ vec_capacity worker.seats)

-- the same worker, with these seats
abbrev pub HasSeats : Worker → List WorkerSeat → Worker → Type 0
HasSeats old seats new = (new.number ≡ old.number) × (new.short ≡ old.short) × (new.answers ≡ old.answers) × (new.seats.items ≡ seats)

-- a worker that has not started: a seat at each ring, and no answer
abbrev pub IsReady : List Shared → Worker → Type 0
IsReady rings worker = AtRings rings worker.seats.items × (worker.answers.items ≡ []) × (worker.short ≡ false)

-- the job was run, and there is one more answer; if an allocation failed, nothing changed
abbrev pub RunsOne : Job → Bool → List JobAnswer → List WorkerSeat → List JobAnswer → List WorkerSeat → Type 0
RunsOne job true given old more new = (a : JobAnswer) × (more ≡ given ++ a ∷ []) × JobRan (task_of job) a old new
RunsOne job false given old more new = (more ≡ given) × (new ≡ old)

-- the worker ran its jobs in order; if an allocation failed, it ran a prefix of them
abbrev pub RunsOwnJobs : List Job → Bool → List JobAnswer → List WorkerSeat → List WorkerSeat → Type 0
RunsOwnJobs jobs short answers old new =
    (done left : List Job) × (jobs ≡ done ++ left) × (short ≡ false → left ≡ []) × RunsJobs done answers old new

-- what a worker's thread returns: its seats, each the same one, and its answers
abbrev pub GivesBack : List Shared → List Job → Worker → Worker → Type 0
GivesBack rings jobs old new =
    (new.number ≡ old.number) × AtRings rings new.seats.items
    × RunsOwnJobs (own_jobs old.number jobs) new.short new.answers.items old.seats.items new.seats.items

-- the worker ran its jobs, which led from the old state of its seats to the new one
abbrev pub HasRun : ℕ → List Job → List WorkerSeat → List WorkerSeat → Worker → Type 0
HasRun number jobs old new worker = (worker.number ≡ number) × RunsOwnJobs (own_jobs number jobs) worker.short worker.answers.items old new
