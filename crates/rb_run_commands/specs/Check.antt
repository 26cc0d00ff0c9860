-- What `check` does with the text of a program: it runs the program over fresh rings, and prints its result and the
-- records that it left in them (own).
use Rattle.std.specs.Prelude.{ℕ, Bool, List, ◌++◌, map, replicate, Option, Result, Ok}
use Rattle.std.specs.Io.KnownBytes.{Appends}
use Rattle.rb_history.specs.declared.answers.Taken.{Taken}
use Rattle.rb_interp.specs.declared.fault.RunFault.{RunFault}
use Rattle.rb_jobs.specs.Jobs.{Task, JobRan}
use Rattle.rb_ledger.specs.Seats.{Shared, WorkerSeat}
use Rattle.rb_verifier.specs.Subject.{Subject}
use Rattle.rb_loader.specs.Acceptance.{IsAccepted}
use Rattle.rb_loader.specs.RequestedFindings.{TellsRequested}
use Rattle.rb_run_commands.specs.DrainedRings.{DrainsRings}
use Rattle.rb_run_commands.specs.FreshRings.{AreNumbered, fresh_worker, fresh_taker}
use Rattle.rb_run_commands.specs.Printed.{check_lines}
use Rattle.rb_json.specs.declared.form.LineForm.{LineForm}

-- ---- the run

-- the program as a job of worker 0, with a context of zeros
abbrev pub zero_task : Subject → Task
zero_task subject = record { worker = 0; program = subject; context = replicate subject.ctx_len 0 }

-- the program was run once, with a context of zeros, and this run took the seats from one state to the other: its calls
-- and its outcome follow from the program's semantics and the rings' answers
abbrev pub RunsOnce : Subject → Result ℕ RunFault → List WorkerSeat → List WorkerSeat → Type 0
RunsOnce subject outcome old new = (unlogged : ℕ) × JobRan (zero_task subject) (record { result = outcome; unlogged = unlogged }) old new

-- the program of this text was run over the requested number of fresh rings, with this outcome
pub record RunsText (text : List ℕ) (ctx_len ring_count : ℕ) (outcome : Result ℕ RunFault) (rings : List Shared) (seats : List WorkerSeat) : Type 0 where
  pub subject : Subject
  pub accepted : IsAccepted text ctx_len ring_count subject
  pub numbered : AreNumbered ring_count rings
  pub ran : RunsOnce subject outcome (map fresh_worker rings) seats

-- ---- what is returned and printed

-- the program of this text returned this value, and these are the records that it left in each ring
pub record Checks (text : List ℕ) (ctx_len ring_count value : ℕ) (records : List (List Taken)) : Type 0 where
  pub rings : List Shared
  pub seats : List WorkerSeat
  pub ran : RunsText text ctx_len ring_count (Ok value) rings seats
  pub drained : DrainsRings seats (map fresh_taker rings) records

-- the program of the input was checked, and exactly the output of `check` for it was printed, followed by the lines of
-- the units that Linux refuses if they are requested
pub record PrintsCheck (portable : Bool) (input : List ℕ) (ctx_len ring_count : ℕ) (form : LineForm) (before after : Option (List ℕ)) : Type 0 where
  pub value : ℕ
  pub records : List (List Taken)
  pub checked : Checks input ctx_len ring_count value records
  pub findings : List ℕ
  pub found : TellsRequested portable form input ctx_len ring_count findings
  pub printed : Appends before after (check_lines form value records ++ findings)
