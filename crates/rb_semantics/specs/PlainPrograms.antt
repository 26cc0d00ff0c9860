-- Programs that keep no pointers on the stack: the plain rules, by which a load produces a number, a store takes one,
-- and the bytes of an output are not checked further (own profile). Two laws: the full verifier accepts all that the
-- plain rules accept, and such programs run as they did under them.
use Rattle.std.specs.Prelude.{◌≡◌, ◌<◌, ℕ, zero, suc, ℤ, pos, List, Option, Some, None, Result, Ok, length}
use Rattle.byteorder.specs.Endian.{little_number}
use Rattle.rb_insn.specs.declared.insn.Insn.{Insn}
use Rattle.rb_insn.specs.declared.insn.Insn.TheVariants.{Call, Load, LoadSigned, StoreImmediate, StoreRegister}
use Rattle.rb_insn.specs.declared.reg.Reg.{Reg}
use Rattle.rb_insn.specs.Sizes.{byte_count, signed_byte_count}
use Rattle.rb_program.specs.Program.{unit_count, slot_at}
use Rattle.rb_program.specs.Edges.{Edge, edge_target}
use Rattle.rb_program.specs.Shape.{IsWellShaped, IsInstructionStart}
use Rattle.rb_verifier.specs.declared.helper.Helper.{Helper}
use Rattle.rb_verifier.specs.declared.helper.Helper.TheVariants as helper
use Rattle.rb_verifier.specs.declared.limits.Limits.{Limits}
use Rattle.rb_verifier.specs.declared.rule.Rule.{Rule}
use Rattle.rb_verifier.specs.declared.rule.Rule.TheVariants as rule
use Rattle.rb_verifier.specs.declared.state.AbsState.{AbsState}
use Rattle.rb_verifier.specs.declared.state.Effect.{Effect}
use Rattle.rb_verifier.specs.declared.value.Abs.{Abs}
use Rattle.rb_verifier.specs.declared.value.Abs.TheVariants.{Number}
use Rattle.rb_verifier.specs.ValueChecks.{◌>>=◌, check_writable, check_tested, check_not_context, check_inside, check_number, check_ring, check_part_pointer, check_known_size}
use Rattle.rb_verifier.specs.HelperChecks.{helper_of, after_answer, check_call}
use Rattle.rb_verifier.specs.KeptPointers.{all_data}
use Rattle.rb_verifier.specs.AbstractStates.{Below, value_in, effect_on_both, entry_state}
use Rattle.rb_verifier.specs.VerifierChecks.{abstract_step, assignment_effect}
use Rattle.rb_verifier.specs.Annotation.{Annotation, along_edge, IsValid}
use Rattle.rb_verifier.specs.Subject.{Subject, limits_of}
use Rattle.rb_semantics.specs.ProgramStates.{State, entry_program_state, register, pointed}
use Rattle.rb_semantics.specs.HelperCalls.{HelperAnswer}
use Rattle.rb_semantics.specs.Instructions.{StepEffect, Stuck, execute, execute_load, execute_store}
use Rattle.rb_semantics.specs.ProgramRuns.{IsStuck, Run, run_ended, run_followed, run_of}

-- a load of `len` bytes produces a number
abbrev pub plain_load : Limits → Reg → Reg → ℤ → ℕ → AbsState → Result Effect Rule
plain_load limits dst base offset len s = do
  _ ← check_writable dst
  _ ← check_tested (value_in s base.number)
  _ ← check_inside limits s.held (value_in s base.number) offset len
  Ok (assignment_effect dst Number s)

-- a store of `len` bytes takes a number
abbrev pub plain_store : Limits → Reg → ℤ → ℕ → Abs → AbsState → Result Effect Rule
plain_store limits base offset len v s = do
  _ ← check_tested (value_in s base.number)
  _ ← check_not_context (value_in s base.number)
  _ ← check_inside limits s.held (value_in s base.number) offset len
  _ ← check_number rule.PointerStored v
  Ok (effect_on_both s)

-- output(ring, data, size, flags)
abbrev pub plain_output : Limits → AbsState → Result Effect Rule
plain_output limits s = do
  _ ← check_ring (value_in s 1)
  _ ← check_tested (value_in s 2)
  _ ← check_part_pointer (value_in s 2)
  size ← check_known_size (value_in s 3)
  _ ← check_inside limits s.held (value_in s 2) (pos 0) size
  _ ← check_number rule.HelperArgument (value_in s 4)
  Ok (effect_on_both (after_answer Number s))

abbrev pub plain_call : Limits → ℕ → Option Helper → AbsState → Result Effect Rule
plain_call limits unit (Some helper.Output) s = plain_output limits s
plain_call limits unit called s = check_call limits unit called s

-- the abstract step by the plain rules; all other instructions are the same
abbrev pub plain_step : Limits → ℕ → Insn → AbsState → Result Effect Rule
plain_step limits unit (Load size dst base offset) s = plain_load limits dst base offset (byte_count size) s
plain_step limits unit (LoadSigned size dst base offset) s = plain_load limits dst base offset (signed_byte_count size) s
plain_step limits unit (StoreImmediate size base offset k) s = plain_store limits base offset (byte_count size) Number s
plain_step limits unit (StoreRegister size base offset src) s = plain_store limits base offset (byte_count size) (value_in s src.number) s
plain_step limits unit (Call number) s = plain_call limits unit (helper_of number) s
plain_step limits unit insn s = abstract_step limits unit insn s

-- the plain checks hold at a unit, and along each edge, the effect is below the next unit's state
pub record HoldsPlainly (limits : Limits) (a : Annotation) (bound unit : ℕ) (insn : Insn) : Type 0 where
  pub effect : Effect
  pub checks : plain_step limits unit insn (a unit) ≡ Ok effect
  pub edges : (along : Edge) (to : ℕ) → edge_target unit insn along ≡ Some to → to < bound → Below (along_edge along effect) (a to)

-- an annotation that is valid by the plain rules, and has data in each place
pub record IsPlainlyValid (limits : Limits) (program : List Insn) (a : Annotation) : Type 0 where
  pub places : (unit : ℕ) → (a unit).places ≡ all_data
  pub entry : 0 < unit_count program → Below entry_state (a 0)
  pub each : (unit : ℕ) (insn : Insn) → unit < unit_count program → slot_at program unit ≡ Some insn → HoldsPlainly limits a (unit_count program) unit insn

-- it is valid by the full rules, too
abbrev pub PlainAnnotationsAreValid : Type 0
PlainAnnotationsAreValid = (limits : Limits) (program : List Insn) (a : Annotation) → IsPlainlyValid limits program a → IsValid limits program a

-- ---- runs without pointers on the stack

-- The plain meaning of an instruction: a load produces the number in the given bytes, and a store of a register takes a
-- number. All other instructions are the same. None stores a pointer, so none is ever found among the bytes.
abbrev pub plain_execute : Insn → State → StepEffect
plain_execute (Load size dst base offset) s =
    execute_load (Load size dst base offset) dst (little_number (byte_count size)) (pointed s.memory (register s base.number) offset (byte_count size)) s
plain_execute (StoreRegister size base offset src) s =
    execute_store (StoreRegister size base offset src) (register s base.number) offset (byte_count size) (register s src.number) s
plain_execute insn s = execute insn s

abbrev pub plain_execute_at : Option Insn → State → StepEffect
plain_execute_at None s = Stuck
plain_execute_at (Some insn) s = plain_execute insn s

-- the run of a program from a state, with at most this many steps, under these answers
abbrev pub plain_run_of : List Insn → ℕ → State → List HelperAnswer → Run
plain_run_of program zero s answers = run_ended IsStuck
plain_run_of program (suc steps) s answers = run_followed (plain_run_of program steps) (plain_execute_at (slot_at program s.unit) s) answers

-- a program with an annotation that is valid by the plain rules makes the same calls, with the same bytes, and ends in
-- the same way under both meanings, for the same answers
abbrev pub PlainProgramsRunAlike : Type 0
PlainProgramsRunAlike =
    (subject : Subject) (a : Annotation) (context : List ℕ) (steps : ℕ) (answers : List HelperAnswer) → IsWellShaped subject.program → IsInstructionStart subject.program 0
    → IsPlainlyValid (limits_of subject) subject.program a → length context ≡ subject.ctx_len
    → run_of subject.program steps (entry_program_state context) answers ≡ plain_run_of subject.program steps (entry_program_state context) answers
