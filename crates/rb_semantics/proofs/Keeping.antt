-- Steps under a fixed annotation: an instruction's effect is sound, and the states that it leads to agree with the same
-- annotation.
use Rattle.std.proofs.Common.{◌≡◌, ℕ, ◌+◌, ◌<◌, true, [], ◌∷◌, length}
use Rattle.rb_program.specs.Program.{slot_at}
use Rattle.rb_program.specs.Shape.{IsWellShaped, IsInstructionStart}
use Rattle.rb_verifier.specs.Forms.{IsFormed}
use Rattle.rb_verifier.specs.Annotation.{Annotation, IsValid}
use Rattle.rb_verifier.specs.Subject.{Subject, limits_of, calls}
use Rattle.rb_semantics.specs.declared.pending_call.PendingCall.{PendingCall}
use Rattle.rb_semantics.specs.ProgramStates.{State}
use Rattle.rb_semantics.specs.HelperCalls.{HelperCall, pending_call_of, HelperAnswer, resume, Resumes}
use Rattle.rb_semantics.specs.Instructions.{StepEffect, Goes, Ends, Asks, Stuck}
use Rattle.rb_semantics.specs.ProgramRuns.{given_back_count}
use Rattle.rb_semantics.specs.Agreement.{Agrees}
use Rattle.rb_semantics.specs.Soundness.{CanStep, IsLawful, IsSoundEffect}

-- the state is at an instruction of a well-shaped program, and agrees there with this annotation, which is valid
pub record CanStepUnder (subject : Subject) (annotation : Annotation) (s : State) : Type 0 where
  pub well_shaped : IsWellShaped subject.program
  pub valid : IsValid (limits_of subject) subject.program annotation
  pub begins : IsInstructionStart subject.program s.unit
  pub formed : IsFormed s.unit (annotation s.unit)
  pub agrees : Agrees subject (annotation s.unit) s

abbrev pub CanAnswerUnder : Subject → Annotation → PendingCall → State → Type 0
CanAnswerUnder subject annotation asked s = (answer : HelperAnswer) (t : State) → resume asked answer s ≡ Resumes t → CanStepUnder subject annotation t

pub record StepsForwardUnder (subject : Subject) (annotation : Annotation) (s t : State) : Type 0 where
  pub forward : s.unit < t.unit
  pub held : length t.memory.records ≡ length s.memory.records
  pub next : CanStepUnder subject annotation t

pub record CallsOutUnder (subject : Subject) (annotation : Annotation) (s : State) (call : HelperCall) (t : State) : Type 0 where
  pub at_call : calls (slot_at subject.program s.unit) ≡ true
  pub here : t.unit ≡ s.unit
  pub lawful : IsLawful subject call
  pub held : length t.memory.records + given_back_count (call ∷ []) ≡ length s.memory.records
  pub next : CanAnswerUnder subject annotation (pending_call_of call) t

abbrev pub IsSoundUnder : Subject → Annotation → State → StepEffect → Type 0
IsSoundUnder subject annotation s (Goes t) = StepsForwardUnder subject annotation s t
IsSoundUnder subject annotation s (Ends n) = s.memory.records ≡ []
IsSoundUnder subject annotation s (Asks call t) = CallsOutUnder subject annotation s call t
IsSoundUnder subject annotation s Stuck = ⊥

module _ (subject : Subject) (annotation : Annotation) where
  abbrev pub can_step : (s : State) → CanStepUnder subject annotation s → CanStep subject s
  can_step s u = record { well_shaped = u.well_shaped; annotation = annotation; valid = u.valid; begins = u.begins; formed = u.formed; agrees = u.agrees }

  -- an effect that is sound under a fixed annotation is sound
  pub sound_so : (s : State) (effect : StepEffect) → IsSoundUnder subject annotation s effect → IsSoundEffect subject s effect
  sound_so s (Goes t) h = record { forward = h.forward; held = h.held; next = can_step t h.next }
  sound_so s (Ends n) h = h
  sound_so s (Asks call t) h = record { at_call = h.at_call; here = h.here; lawful = h.lawful; held = h.held; next = λ answer t e. can_step t (h.next answer t e) }
  sound_so s Stuck h = h
