-- The moments of a whole run. `ProgramRuns` describes a run as a whole; its moments describe the same run step by step
-- (own).
use Rattle.std.specs.Prelude.{◌≡◌, ℕ, List, [], ◌∷◌, ◌++◌, zip, Option, Some, None}
use Rattle.rb_insn.specs.declared.insn.Insn.{Insn}
use Rattle.rb_semantics.specs.ProgramStates.{State}
use Rattle.rb_semantics.specs.HelperCalls.{HelperCall, HelperAnswer, HandedBack}
use Rattle.rb_semantics.specs.Instructions.{Ends, next_step}
use Rattle.rb_semantics.specs.ProgramRuns.{Outcome, Returns, Strayed, run_of}
use Rattle.rb_cost.specs.Runs.{Moment, AreMoments, call_at}

-- a call that was answered, with its answer
abbrev pub answered_by : Option HelperAnswer → Option HelperCall → List (HelperCall × HelperAnswer)
answered_by None call = []
answered_by (Some answer) None = []
answered_by (Some answer) (Some call) = (call, answer) ∷ []

-- the answered calls of some moments, the oldest first (a list of moments has the last one first)
abbrev pub calls_in : List Insn → List Moment → List (HelperCall × HelperAnswer)
calls_in program [] = []
calls_in program (m ∷ before) = calls_in program before ++ answered_by m.answer (call_at program m)

-- A run from a state that made these calls, with these answers, has these moments: they begin in that state, their
-- answered calls are those of the run, and the last of them meets `End`.
pub record HasMoments (program : List Insn) (first : State) (calls : List HelperCall) (answers : List HelperAnswer) (End : Moment → Type 0) : Type 0 where
  pub last : Moment
  pub before : List Moment
  pub moments : AreMoments program first (last ∷ before)
  pub calls_are : calls_in program (last ∷ before) ≡ zip calls answers
  pub end : End last

-- A run that returned a number reached an instruction that ends the program with it. A run that was handed a record
-- back reached a call with that answer. Nothing is stated about a run that still waits for an answer, or has no
-- meaning: a verified program has no such runs.
abbrev pub EndsAtMoment : List Insn → State → List HelperCall → List HelperAnswer → Outcome → Type 0
EndsAtMoment program first calls answers (Returns n) = HasMoments program first calls answers (λ last. next_step program last.state ≡ Ends n)
EndsAtMoment program first calls answers Strayed = HasMoments program first calls answers (λ last. last.answer ≡ Some HandedBack)
EndsAtMoment program first calls answers outcome = Unit {0}

-- every run of a program has such moments
abbrev pub RunsHaveMoments : Type 0
RunsHaveMoments =
    (program : List Insn) (steps : ℕ) (first : State) (answers : List HelperAnswer)
    → EndsAtMoment program first (run_of program steps first answers).calls answers (run_of program steps first answers).outcome
