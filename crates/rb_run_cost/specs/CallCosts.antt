-- Bounds on what the calls of a run request, by the trace that the run leaves (own).
use Rattle.std.specs.Prelude.{ℕ, ◌<◌, ◌≤◌, ◌==◌, Bool, false, List, length, count_by, sum_by, Result, if◌then◌else◌}
use Rattle.rb_program.specs.Shape.{IsWellShaped, IsInstructionStart}
use Rattle.rb_verifier.specs.Annotation.{HasValid}
use Rattle.rb_verifier.specs.Subject.{Subject, limits_of}
use Rattle.rb_history.specs.Span.{span}
use Rattle.rb_interp.specs.declared.completed_call.Done.{Done}
use Rattle.rb_interp.specs.declared.completed_call.Done.TheVariants.{Reserve, Output}
use Rattle.rb_interp.specs.declared.fault.RunFault.{RunFault}
use Rattle.rb_interp.specs.AnsweredCalls.{AnsweredCall, notes_of}
use Rattle.rb_interp.specs.RunTraces.{RunMatches, TellsLength}
use Rattle.rb_cost.specs.declared.cost.Cost.{Cost}
use Rattle.rb_cost.specs.Cost.{IsCost}
use Rattle.rb_cost.specs.Runs.{ring_cost_at}

-- whether a call requested a record of a ring, granted or refused
abbrev pub asks : ℕ → Done → Bool
asks ring (Reserve r len flags granted) = r == ring
asks ring (Output r len flags answer) = r == ring
asks ring call = false

-- how many bytes of the ring the requested record takes: its span
abbrev pub asked_span : ℕ → Done → ℕ
asked_span ring (Reserve r len flags granted) = if r == ring then span len else 0
asked_span ring (Output r len flags answer) = if r == ring then span len else 0
asked_span ring call = 0

-- the calls stay within a cost: their number, and for each ring, the records and bytes that they request
pub record AreCallsWithin (subject : Subject) (cost : Cost) (calls : List Done) : Type 0 where
  pub count : length calls ≤ cost.calls
  pub records : (ring : ℕ) → ring < subject.rings → count_by (asks ring) calls ≤ (ring_cost_at cost ring).records
  pub bytes : (ring : ℕ) → ring < subject.rings → sum_by (asked_span ring) calls ≤ (ring_cost_at cost ring).bytes

-- a verified program: it is well shaped and has a valid annotation
pub record IsVerified (subject : Subject) : Type 0 where
  pub well_shaped : IsWellShaped subject.program
  pub begins : IsInstructionStart subject.program 0
  pub valid : HasValid (limits_of subject) subject.program

-- The calls of a run stay within the cost of its program for all answers. `RunMatches` and `TellsLength` are what
-- `rb_interp::run` and a job ensure about their calls and their result.
abbrev pub CallsStayWithin : {R : Type 0} → (R → List ℕ) → (R → List ℕ → R) → Type 0
CallsStayWithin {R} bytes_of with_bytes =
    (subject : Subject) (cost : Cost) (context : List ℕ) (made : List (AnsweredCall R)) (result : Result ℕ RunFault)
    → IsVerified subject → IsCost subject cost → TellsLength subject context result → RunMatches bytes_of with_bytes subject context made result
    → AreCallsWithin subject cost (notes_of made)
