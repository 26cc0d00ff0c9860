-- What contracts see of a job, and what running it does to a worker's seats (own).
use Rattle.std.specs.Prelude.{◌≡◌, ◌≢◌, ℕ, ◌+◌, ◌-◌, ◌^◌, List, [], length, min, Err, OnOk}
use Rattle.std.specs.List.{AllZip}
use Rattle.rb_verifier.specs.Subject.{Subject}
use Rattle.rb_interp.specs.AnsweredCalls.{AnsweredCall, AllMayAnswer, notes_of}
use Rattle.rb_interp.specs.declared.fault.RunFault.TheVariants.{Stray}
use Rattle.rb_interp.specs.RunTraces.{RunMatches, TellsLength, TraceBalances}
use Rattle.rb_ledger.specs.Seats.{Shared, WorkerSeat, IsSameSeat}
use Rattle.rb_chapter_ring.specs.declared.ring_record.RingRecord.{RingRecord}
use Rattle.rb_chapter_ring.specs.RingRecords.{reserved_bytes, with_record_bytes}
use Rattle.rb_jobs.specs.SeatHelpers.{SeatsLead, makes, submits, discards, fails, call_total, made_in, refused_in, submitted_in, discarded_in}
use Rattle.rb_jobs.specs.declared.job.Job.{Job}
use Rattle.rb_jobs.specs.declared.job.JobAnswer.{JobAnswer}

-- the worker that runs the job, the verified program, and the bytes of the context
pub record Task : Type 0 where
  pub worker : ℕ
  pub program : Subject
  pub context : List ℕ

abbrev pub task_of : Job → Task
task_of job = record { worker = job.worker; program = job.program.now; context = job.ctx.now }

-- a worker's seats at its rings, in the rings' order, and the number of helper calls that it has finished
pub record WorkerAtRings : Type 0 where
  pub rings : List Shared
  pub seats : List WorkerSeat
  pub calls : ℕ

-- The job was run: it made these calls, with these answers. They are those of the program's semantics, which gives this
-- result; no record was handed back; they lead from the old state of the worker's seats to the new one; and the seats'
-- counts together grew by what the calls say. Each null for flags 0 and each answer -EAGAIN is a refusal in a ring's
-- history, or unlogged.
pub record JobRan (task : Task) (answer : JobAnswer) (old new : List WorkerSeat) : Type 0 where
  pub calls : List (AnsweredCall RingRecord)
  pub length_is : TellsLength task.program task.context answer.result
  pub shows : RunMatches reserved_bytes with_record_bytes task.program task.context calls answer.result
  pub never_stray : answer.result ≢ Err Stray
  pub led : SeatsLead old calls answer.unlogged new
  pub may_answer : AllMayAnswer (notes_of calls)
  pub balanced : OnOk answer.result (TraceBalances [] (notes_of calls))
  pub same : AllZip IsSameSeat old new
  pub made_is : made_in new ≡ made_in old + call_total makes (notes_of calls)
  pub submitted_is : submitted_in new ≡ submitted_in old + call_total submits (notes_of calls)
  pub discarded_is : discarded_in new ≡ discarded_in old + call_total discards (notes_of calls)
  pub failed_is : refused_in new + answer.unlogged ≡ refused_in old + call_total fails (notes_of calls)

-- a count of calls after `calls` more, which saturates at the greatest number of 64 bits
abbrev pub counted_on : ℕ → ℕ → ℕ
counted_on count calls = min (count + calls) (2 ^ 64 - 1)

-- the job was run, and its calls were counted
abbrev pub JobRanCounted : Task → JobAnswer → List WorkerSeat → List WorkerSeat → ℕ → ℕ → Type 0
JobRanCounted task answer old new count counted = (ran : JobRan task answer old new) × (counted ≡ counted_on count (length ran.calls))

-- a job submits and discards as many records as it makes
abbrev pub JobsGiveBack : Type 0
JobsGiveBack =
    (task : Task) (answer : JobAnswer) (old new : List WorkerSeat) → JobRan task answer old new
    → made_in new + submitted_in old + discarded_in old ≡ made_in old + submitted_in new + discarded_in new
