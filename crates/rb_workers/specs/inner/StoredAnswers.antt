-- The meaning of a stored answer.
use Rattle.std.specs.Prelude.{ℕ, ◌+◌, ◌*◌, ◌^◌, Option, None, Some, Ok, Err}
use Rattle.rb_interp.specs.declared.fault.RunFault.{RunFault}
use Rattle.rb_jobs.specs.declared.job.JobAnswer.{JobAnswer}

-- the answer whose result has these halves, unless it is a fault
abbrev pub answer_in : ℕ → ℕ → Option RunFault → ℕ → JobAnswer
answer_in low high None unlogged = record { result = Ok (high * 2 ^ 32 + low); unlogged = unlogged }
answer_in low high (Some fault) unlogged = record { result = Err fault; unlogged = unlogged }
