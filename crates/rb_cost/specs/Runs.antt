-- The cost of the runs of a program by its semantics, and the law that they stay within the program's cost.
use Rattle.std.specs.Prelude.{◌≡◌, ℕ, ◌==◌, ◌<◌, ◌≤◌, pos, List, [], ◌∷◌, length, count_by, sum_by, Option, Some, None, is_some, option_and_then, option_map, slice_index_or, if◌then◌else◌}
use Rattle.rb_insn.specs.declared.insn.Insn.{Insn}
use Rattle.rb_program.specs.Shape.{IsWellShaped, IsInstructionStart}
use Rattle.rb_verifier.specs.Annotation.{HasValid}
use Rattle.rb_verifier.specs.Subject.{Subject, limits_of}
use Rattle.rb_semantics.specs.ProgramStates.{State, entry_program_state}
use Rattle.rb_semantics.specs.HelperCalls.{HelperCall, Reserve, Output, pending_call_of, HelperAnswer, Granted, Code, Resumes, resume}
use Rattle.rb_semantics.specs.Instructions.{StepEffect, Goes, Asks, next_step}
use Rattle.rb_cost.specs.declared.requested_record.RequestedRecord.{RequestedRecord}
use Rattle.rb_cost.specs.declared.cost.Cost.{Cost}
use Rattle.rb_cost.specs.declared.cost.RingCost.{RingCost}
use Rattle.rb_cost.specs.Requests.{is_on, bytes_on}
use Rattle.rb_cost.specs.Cost.{IsCost, no_ring_cost}

-- A moment of a run: the state before an instruction, and the answer to the instruction's call, if it made one and was
-- answered.
pub record Moment : Type 0 where
  pub state : State
  pub answer : Option HelperAnswer

-- the effect of an instruction, with an answer if it makes a call, leads to a state
abbrev pub LeadsTo : StepEffect → Option HelperAnswer → State → Type 0
LeadsTo (Goes next) answer t = t ≡ next
LeadsTo (Asks call waits) (Some answer) t = resume (pending_call_of call) answer waits ≡ Resumes t
LeadsTo effect answer t = ⊥

-- The moments so far of a run that begins in a state, for any answers to its calls; the last moment comes first.
abbrev pub AreMoments : List Insn → State → List Moment → Type 0
AreMoments program first [] = ⊥
AreMoments program first (m ∷ []) = m.state ≡ first
AreMoments program first (n ∷ m ∷ before) = LeadsTo (next_step program m.state) m.answer n.state × AreMoments program first (m ∷ before)

-- the call that the instruction of a moment makes
abbrev pub call_of : StepEffect → Option HelperCall
call_of (Asks call waits) = Some call
call_of effect = None

abbrev pub call_at : List Insn → Moment → Option HelperCall
call_at program m = call_of (next_step program m.state)

-- the record that a call was granted: a reserve that was answered with a record, or an output that was answered with 0
abbrev pub granted_to : Option HelperCall → Option HelperAnswer → Option RequestedRecord
granted_to (Some (Reserve id ring len flags)) (Some Granted) = Some (record { ring = ring; len = len })
granted_to (Some (Output ring bytes flags)) (Some (Code (pos ℕ.zero))) = Some (record { ring = ring; len = length bytes })
granted_to call answer = None

abbrev pub granted_at : List Insn → Moment → Option RequestedRecord
granted_at program m = granted_to (call_at program m) m.answer

-- the record that a call requests, for any answer
abbrev pub asked_by_call : HelperCall → Option RequestedRecord
asked_by_call (Reserve id ring len flags) = Some (record { ring = ring; len = len })
asked_by_call (Output ring bytes flags) = Some (record { ring = ring; len = length bytes })
asked_by_call call = None

abbrev pub requested_at : List Insn → Moment → Option RequestedRecord
requested_at program m = option_and_then asked_by_call (call_at program m)

-- the ring on which a call reserves the record with an id
abbrev pub ring_by : Option HelperCall → ℕ → Option ℕ → Option ℕ
ring_by (Some (Reserve reserved ring len flags)) id before = if reserved == id then Some ring else before
ring_by call id before = before

-- the ring on which the record with an id was reserved
abbrev pub ring_of : List Insn → List Moment → ℕ → Option ℕ
ring_of program [] id = None
ring_of program (m ∷ before) id = ring_by (call_at program m) id (ring_of program before id)

-- a record in the memory of a program, as one of the ring on which it was reserved
abbrev pub held_record : List Insn → List Moment → ℕ × List ℕ → Option RequestedRecord
held_record program before r = option_map (λ ring. record { ring = ring; len = length r.1 }) (ring_of program before r.0)

-- what a run was granted so far on a ring does not exceed the cost
pub record IsGrantedWithin (program : List Insn) (moments : List Moment) (ring : ℕ) (cost : RingCost) : Type 0 where
  pub records : count_by (λ m. is_on ring (granted_at program m)) moments ≤ cost.records
  pub bytes : sum_by (λ m. bytes_on ring (granted_at program m)) moments ≤ cost.bytes

-- nor does what it requested from that ring, granted or refused
pub record IsAskedWithin (program : List Insn) (moments : List Moment) (ring : ℕ) (cost : RingCost) : Type 0 where
  pub records : count_by (λ m. is_on ring (requested_at program m)) moments ≤ cost.records
  pub bytes : sum_by (λ m. bytes_on ring (requested_at program m)) moments ≤ cost.bytes

-- nor do the records of a ring that the program holds after these moments
pub record IsHeldWithin (program : List Insn) (before : List Moment) (held : List (ℕ × List ℕ)) (ring : ℕ) (cost : RingCost) : Type 0 where
  pub records : count_by (λ r. is_on ring (held_record program before r)) held ≤ cost.held_records
  pub bytes : sum_by (λ r. bytes_on ring (held_record program before r)) held ≤ cost.held_bytes

-- the cost of one ring
abbrev pub ring_cost_at : Cost → ℕ → RingCost
ring_cost_at cost ring = slice_index_or cost.rings.items ring no_ring_cost

-- a run stayed within a cost up to a moment: its steps, its calls, what it requested, what it was granted, and what it
-- holds at that moment
pub record IsRunWithin (subject : Subject) (cost : Cost) (last : Moment) (before : List Moment) : Type 0 where
  pub steps : length (last ∷ before) ≤ cost.steps
  pub calls : count_by (λ m. is_some (call_at subject.program m)) (last ∷ before) ≤ cost.calls
  pub asked : (ring : ℕ) → ring < subject.rings → IsAskedWithin subject.program (last ∷ before) ring (ring_cost_at cost ring)
  pub granted : (ring : ℕ) → ring < subject.rings → IsGrantedWithin subject.program (last ∷ before) ring (ring_cost_at cost ring)
  pub held : (ring : ℕ) → ring < subject.rings → IsHeldWithin subject.program before last.state.memory.records ring (ring_cost_at cost ring)

-- every run of a verified program stays within its cost at each of its moments, for any answers
abbrev pub RunsStayWithin : Type 0
RunsStayWithin =
    (subject : Subject) (cost : Cost) (context : List ℕ) (last : Moment) (before : List Moment) → IsWellShaped subject.program → IsInstructionStart subject.program 0
    → HasValid (limits_of subject) subject.program → IsCost subject cost → length context ≡ subject.ctx_len → AreMoments subject.program (entry_program_state context) (last ∷ before)
    → IsRunWithin subject cost last before
