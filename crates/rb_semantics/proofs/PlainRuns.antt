-- Programs that the plain rules accept run as they do under the plain meaning.
use Rattle.std.proofs.Common.{◌≡◌, ℕ, zero, suc, ℤ, pos, Bool, true, false, List, [], ◌∷◌, Option, Some, None, option_and_then, length, refl, sym, ap, ◌∙◌, subst, Ok}
use Rattle.std.specs.Prelude.{if◌then◌else◌}
use Rattle.std.specs.Ordering.{int_eq}
use Rattle.byteorder.specs.Endian.{little_number, little_bytes}
use Rattle.rb_insn.specs.declared.insn.BinaryOp.{BinaryOp}
use Rattle.rb_insn.specs.declared.insn.BinaryOp.TheVariants.{Add, Sub}
use Rattle.rb_insn.specs.declared.insn.Insn.{Insn}
use Rattle.rb_insn.specs.declared.insn.Insn.TheVariants.{Binary, Division, Negate, Move, MoveExtended32, MoveExtended64, Reorder, Jump, JumpFar, Branch, Call, Exit, LoadNumber, LoadRing, Load, LoadSigned, StoreImmediate, StoreRegister}
use Rattle.rb_insn.specs.declared.insn.Operand.TheVariants.{Immediate, Register}
use Rattle.rb_insn.specs.declared.insn.Size.{Size}
use Rattle.rb_insn.specs.declared.insn.Size.TheVariants.{Byte, Half, Word, Double}
use Rattle.rb_insn.specs.declared.insn.Width.{Width}
use Rattle.rb_insn.specs.declared.insn.Width.TheVariants.{W32, W64}
use Rattle.rb_insn.specs.declared.reg.Reg.{Reg}
use Rattle.rb_insn.specs.WholeNumbers.{wrapped}
use Rattle.rb_insn.specs.Sizes.{byte_count, signed_byte_count}
use Rattle.rb_program.specs.Program.{slot_at, unit_count}
use Rattle.rb_program.specs.Edges.{Edge, Target}
use Rattle.rb_program.specs.Shape.{IsWellShaped, IsInstructionStart}
use Rattle.rb_program.proofs.ShapeLaws.{begins-lt}
use Rattle.rb_verifier.specs.declared.helper.Helper.{Helper}
use Rattle.rb_verifier.specs.declared.helper.Helper.TheVariants as helper
use Rattle.rb_verifier.specs.declared.limits.Limits.{Limits}
use Rattle.rb_verifier.specs.declared.rule.Rule.TheVariants as rule
use Rattle.rb_verifier.specs.declared.state.AbsState.{AbsState}
use Rattle.rb_verifier.specs.declared.state.Effect as refs
use Rattle.rb_verifier.specs.declared.value.Abs.{Abs}
use Rattle.rb_verifier.specs.AbstractStates.{value_in}
use Rattle.rb_verifier.specs.ValueChecks.{check_tested, check_not_context, check_inside, check_number}
use Rattle.rb_verifier.specs.HelperChecks.{helper_of}
use Rattle.rb_verifier.proofs.Laws.{both_hold}
use Rattle.rb_verifier.specs.Annotation.{Annotation}
use Rattle.rb_verifier.specs.Subject.{Subject, limits_of}
use Rattle.rb_semantics.specs.declared.pending_call.PendingCall.{PendingCall}
use Rattle.rb_semantics.specs.declared.pending_call.PendingCall.TheVariants as asked
use Rattle.rb_semantics.specs.declared.value.MemoryRegion.{MemoryRegion}
use Rattle.rb_semantics.specs.declared.value.MemoryRegion.TheVariants as part
use Rattle.rb_semantics.specs.declared.value.Value.{Value}
use Rattle.rb_semantics.specs.declared.value.Value.TheVariants.{Nothing, Number, Pointer, Ring}
use Rattle.rb_semantics.specs.StackPointers.{spill_of, pointers_beside}
use Rattle.rb_semantics.specs.ProgramMemory.{Memory, record_named, part_bytes, byte_of, overwritten, with_part, write}
use Rattle.rb_semantics.specs.ProgramStates.{State, register, operand_in, with_register, pointed, memory_written, fill_of, entry_program_state}
use Rattle.rb_semantics.specs.HelperCalls.{HelperCall, Submit, Discard, pending_call_of, HelperAnswer, Granted, Null, Taken, HandedBack, Code, Told, Resumption, Resumes, Strays, Unfit, resume, CallInState, call_reserve, call_given_back, call_give_back, call_handed_out, call_output, call_query, call_of_helper}
use Rattle.rb_semantics.specs.Instructions.{StepEffect, Goes, Ends, Asks, Stuck, goes_to, goes_by_edge, gives, after_store, execute_copy, execute_compute, execute_arithmetic, execute_load, signed_number, execute_fill, execute_store, execute_spill, execute_compare, execute_exit, null_test, waits_for, execute, execute_at}
use Rattle.rb_semantics.specs.ProgramRuns.{Run, Runner, run_resumed, run_called, run_followed, then_run, run_of}
use Rattle.rb_semantics.specs.Agreement.{AgreesValue}
use Rattle.rb_semantics.specs.PlainPrograms.{plain_store, plain_step, HoldsPlainly, IsPlainlyValid, plain_execute, plain_execute_at, plain_run_of, PlainProgramsRunAlike}
use Rattle.rb_semantics.proofs.Accesses.{no_fill}
use Rattle.rb_semantics.proofs.Checks.{number_passed}
use Rattle.rb_semantics.proofs.Values.{number_value}
use Rattle.rb_semantics.proofs.Keeping.{CanStepUnder, IsSoundUnder, can_step}
use Rattle.rb_semantics.proofs.Sound.{instruction_keeps, can_start_under}
use Rattle.rb_semantics.proofs.PlainPrograms.{plain_valid}

-- ---- plain steps store no pointer

abbrev KeepsNone : StepEffect → Type 0
KeepsNone (Goes t) = t.memory.pointers ≡ []
KeepsNone (Ends n) = Unit {0}
KeepsNone (Asks call t) = t.memory.pointers ≡ []
KeepsNone Stuck = Unit {0}

gone : (to : Option ℕ) (t : State) → t.memory.pointers ≡ [] → KeepsNone (goes_to to t)
gone None t e = tt
gone (Some unit) t e = e

none_beside : (at len : ℕ) (m : Memory) → m.pointers ≡ [] → pointers_beside at len m.pointers ≡ []
none_beside at len m e = ap (pointers_beside at len) e

abbrev NoneLeft : Resumption → Type 0
NoneLeft (Resumes t) = t.memory.pointers ≡ []
NoneLeft r = Unit {0}

abbrev NoneIn : Option Memory → Type 0
NoneIn None = Unit {0}
NoneIn (Some m) = m.pointers ≡ []

part_written : (m : Memory) (place : MemoryRegion) (at len : ℕ) (bytes : List ℕ) → m.pointers ≡ [] → NoneIn (with_part m place at len bytes)
part_written m part.Stack at len bytes e = none_beside at len m e
part_written m part.Context at len bytes e = tt
part_written m (part.Record id) at len bytes e = e

none_written : (m : Memory) (place : MemoryRegion) (offset : ℤ) (new : List ℕ) → m.pointers ≡ [] → NoneIn (write m place offset new)
none_written m place offset new e = of_part (part_bytes m place)
  where
    of_bytes : (at : ℕ) (bytes : Option (List ℕ)) → NoneIn (option_and_then (with_part m place at (length new)) bytes)
    of_bytes at None = tt
    of_bytes at (Some bytes) = part_written m place at (length new) bytes e

    of_byte : (bytes : List ℕ) (at : Option ℕ) → NoneIn (option_and_then (λ at. option_and_then (with_part m place at (length new)) (overwritten new bytes at)) at)
    of_byte bytes None = tt
    of_byte bytes (Some at) = of_bytes at (overwritten new bytes at)

    of_part : (bytes : Option (List ℕ)) → NoneIn (option_and_then (λ bytes. option_and_then (λ at. option_and_then (with_part m place at (length new)) (overwritten new bytes at)) (byte_of place offset)) bytes)
    of_part None = tt
    of_part (Some bytes) = of_byte bytes (byte_of place offset)

module _ (insn : Insn) (s : State) (none : s.memory.pointers ≡ []) where
  none_given : (dst : Reg) (v : Value) → KeepsNone (gives insn dst v s)
  none_given dst v = gone _ (with_register dst v s) none

  none_along : (edge : Edge) → KeepsNone (goes_by_edge edge insn s)
  none_along edge = gone _ s none

  none_copied : (dst : Reg) (v : Value) → KeepsNone (execute_copy insn dst v s)
  none_copied dst Nothing = tt
  none_copied dst v = none_given dst v

  none_computed : (dst : Reg) (v w : Value) → KeepsNone (execute_compute insn dst v w s)
  none_computed dst (Number a) (Number b) = none_given dst _
  none_computed dst v w = tt

  none_arithmetic : (width : Width) (op : BinaryOp) (dst : Reg) (v w : Value) → KeepsNone (execute_arithmetic width op insn dst v w s)
  none_arithmetic W64 Add dst (Pointer place offset) (Number by) = none_given dst _
  none_arithmetic W64 Sub dst (Pointer place offset) (Number by) = none_given dst _
  none_arithmetic width op dst v w = none_computed dst v w

  none_loaded : (dst : Reg) (number : List ℕ → ℕ) (bytes : Option (List ℕ)) → KeepsNone (execute_load insn dst number bytes s)
  none_loaded dst number None = tt
  none_loaded dst number (Some bytes) = none_given dst _

  none_after : (o : Option Memory) → NoneIn o → KeepsNone (after_store insn o s)
  none_after None e = tt
  none_after (Some m) e = gone _ (record s { memory = m }) e

  none_stored : (base v : Value) (offset : ℤ) (len : ℕ) → KeepsNone (execute_store insn base offset len v s)
  none_stored (Pointer place at) (Number n) offset len = none_after _ (none_written s.memory place _ (little_bytes len n) none)
  none_stored base (Number n) offset len = tt
  none_stored base v offset len = tt

  none_compared : (test : Option Edge) (v w : Value) → KeepsNone (execute_compare insn test v w s)
  none_compared (Some edge) (Pointer (part.Record id) offset) w = none_along edge
  none_compared test (Number a) (Number b) = none_along _
  none_compared test v w = tt

none_ended : (v : Value) → KeepsNone (execute_exit v)
none_ended (Number n) = tt
none_ended v = tt

module _ (s : State) (none : s.memory.pointers ≡ []) where
  none_given_back : (call : ℕ → List ℕ → ℕ → HelperCall) (v w : Value) → KeepsNone (waits_for (call_give_back call v w s))
  none_given_back call (Pointer (part.Record id) offset) (Number flags) = chosen (int_eq offset (pos 0)) (record_named id s.memory.records)
    where
      chosen : (first : Bool) (bytes : Option (List ℕ)) → KeepsNone (waits_for (if first then call_given_back call id flags bytes s else None))
      chosen true None = tt
      chosen true (Some bytes) = none
      chosen false bytes = tt
  none_given_back call v w = tt

  none_reserved : (v w x : Value) → KeepsNone (waits_for (call_reserve v w x s))
  none_reserved (Ring ring) (Number len) (Number flags) = none
  none_reserved v w x = tt

  none_handed : (ring flags : ℕ) (bytes : Option (List ℕ)) → KeepsNone (waits_for (call_handed_out ring flags bytes s))
  none_handed ring flags None = tt
  none_handed ring flags (Some bytes) = none

  none_output : (v w x y : Value) → KeepsNone (waits_for (call_output v w x y s))
  none_output (Ring ring) from (Number len) (Number flags) = none_handed ring flags _
  none_output v w x y = tt

  none_queried : (v w : Value) → KeepsNone (waits_for (call_query v w s))
  none_queried (Ring ring) (Number what) = none
  none_queried v w = tt

  none_called : (called : Option Helper) → KeepsNone (waits_for (call_of_helper called s))
  none_called None = tt
  none_called (Some helper.Reserve) = none_reserved (register s 1) (register s 2) (register s 3)
  none_called (Some helper.Submit) = none_given_back Submit (register s 1) (register s 2)
  none_called (Some helper.Discard) = none_given_back Discard (register s 1) (register s 2)
  none_called (Some helper.Output) = none_output (register s 1) (register s 2) (register s 3) (register s 4)
  none_called (Some helper.Query) = none_queried (register s 1) (register s 2)

none_kept : (insn : Insn) (s : State) → s.memory.pointers ≡ [] → KeepsNone (plain_execute insn s)
unfolding execute
none_kept (Move width dst (Immediate k)) s e = none_computed (Move width dst (Immediate k)) s e dst (Number 0) (Number 0)
none_kept (Move W64 dst (Register src)) s e = none_copied (Move W64 dst (Register src)) s e dst (register s src.number)
none_kept (Move W32 dst (Register src)) s e = none_computed (Move W32 dst (Register src)) s e dst (Number 0) (register s src.number)
none_kept (MoveExtended32 low dst src) s e = none_computed (MoveExtended32 low dst src) s e dst (Number 0) (register s src.number)
none_kept (MoveExtended64 low dst src) s e = none_computed (MoveExtended64 low dst src) s e dst (Number 0) (register s src.number)
none_kept (Negate width dst) s e = none_computed (Negate width dst) s e dst (register s dst.number) (Number 0)
none_kept (Reorder order width dst) s e = none_computed (Reorder order width dst) s e dst (register s dst.number) (Number 0)
none_kept (Division width op sign dst operand) s e = none_computed (Division width op sign dst operand) s e dst (register s dst.number) (operand_in s operand)
none_kept (Binary width op dst operand) s e = none_arithmetic (Binary width op dst operand) s e width op dst (register s dst.number) (operand_in s operand)
none_kept (LoadNumber dst n) s e = none_given (LoadNumber dst n) s e dst (Number n)
none_kept (LoadRing dst ring) s e = none_given (LoadRing dst ring) s e dst (Ring ring)
none_kept (Load size dst base offset) s e = none_loaded (Load size dst base offset) s e dst (little_number (byte_count size)) (pointed s.memory (register s base.number) offset (byte_count size))
none_kept (LoadSigned size dst base offset) s e = none_loaded (LoadSigned size dst base offset) s e dst (signed_number (signed_byte_count size)) (pointed s.memory (register s base.number) offset (signed_byte_count size))
none_kept (StoreImmediate size base offset k) s e = none_stored (StoreImmediate size base offset k) s e (register s base.number) (Number (wrapped 64 k)) offset (byte_count size)
none_kept (StoreRegister size base offset src) s e = none_stored (StoreRegister size base offset src) s e (register s base.number) (register s src.number) offset (byte_count size)
none_kept (Branch width condition dst operand distance) s e = none_compared (Branch width condition dst operand distance) s e (null_test width condition operand) (register s dst.number) (operand_in s operand)
none_kept (Jump distance) s e = none_along (Jump distance) s e Target
none_kept (JumpFar distance) s e = none_along (JumpFar distance) s e Target
none_kept (Call number) s e = none_called s e (helper_of number)
none_kept Exit s e = none_ended (register s 0)

-- ---- the two meanings agree where the plain rules hold

number_stored : (insn : Insn) (base v : Value) (offset : ℤ) (n : ℕ) (size : Size) (s : State) → v ≡ Number n → execute_spill insn base offset (byte_count size) (spill_of size v) v s ≡ execute_store insn base offset (byte_count size) v s
number_stored insn base v offset n size s e = subst (λ v. execute_spill insn base offset (byte_count size) (spill_of size v) v s ≡ execute_store insn base offset (byte_count size) v s) (sym e) (of_size size)
  where
    of_size : (size : Size) → execute_spill insn base offset (byte_count size) (spill_of size (Number n)) (Number n) s ≡ execute_store insn base offset (byte_count size) (Number n) s
    of_size Byte = refl
    of_size Half = refl
    of_size Word = refl
    of_size Double = refl

-- a store by the plain rules takes a number
stored_number : (limits : Limits) (base : Reg) (by : ℤ) (len : ℕ) (v : Abs) (a : AbsState) (e : refs.Effect) → plain_store limits base by len v a ≡ Ok e → (unit : Unit {0}) × (check_number rule.PointerStored v ≡ Ok unit)
stored_number limits base by len v a e h =
    let x = value_in a base.number in
    let b1 = both_hold (check_tested x) _ e h in
    let b2 = both_hold (check_not_context x) _ e b1.others in
    let b3 = both_hold (check_inside limits a.held x by len) _ e b2.others in
    let b4 = both_hold (check_number rule.PointerStored v) _ e b3.others in
    (b4.value, b4.first)

module _ (subject : Subject) (a : Annotation) (valid : IsPlainlyValid (limits_of subject) subject.program a) where
  same_row : (insn : Insn) (s : State) (e : refs.Effect) → CanStepUnder subject a s → s.memory.pointers ≡ [] → plain_step (limits_of subject) s.unit insn (a s.unit) ≡ Ok e → execute insn s ≡ plain_execute insn s
  unfolding execute
  same_row (Load size dst base offset) s e u none h =
      ap (λ found. execute_fill (Load size dst base offset) dst (little_number (byte_count size)) found (pointed s.memory (register s base.number) offset (byte_count size)) s) (no_fill size s.memory (register s base.number) offset none)
  same_row (StoreRegister size base offset src) s e u none h =
      let v = value_in (a s.unit) src.number in
      let k = stored_number (limits_of subject) base offset (byte_count size) v (a s.unit) e h in
      let n = number_value s.memory.records v (register s src.number) (number_passed rule.PointerStored v k.0 k.1) (u.agrees.values src.number) in
      number_stored (StoreRegister size base offset src) (register s base.number) (register s src.number) offset n.0 size s n.1
  same_row (LoadSigned size dst base offset) s e u none h = refl
  same_row (StoreImmediate size base offset k) s e u none h = refl
  same_row (Call number) s e u none h = refl
  same_row (Move width dst operand) s e u none h = refl
  same_row (MoveExtended32 low dst src) s e u none h = refl
  same_row (MoveExtended64 low dst src) s e u none h = refl
  same_row (Negate width dst) s e u none h = refl
  same_row (Reorder order width dst) s e u none h = refl
  same_row (Division width op sign dst operand) s e u none h = refl
  same_row (Binary width op dst operand) s e u none h = refl
  same_row (LoadNumber dst n) s e u none h = refl
  same_row (LoadRing dst ring) s e u none h = refl
  same_row (Branch width condition dst operand distance) s e u none h = refl
  same_row (Jump distance) s e u none h = refl
  same_row (JumpFar distance) s e u none h = refl
  same_row Exit s e u none h = refl

  -- ---- whole runs

  abbrev run : ℕ → Runner
  run = run_of subject.program

  abbrev plain : ℕ → Runner
  plain = plain_run_of subject.program

  abbrev AreAlike : ℕ → Type 0
  AreAlike steps = (s : State) (answers : List HelperAnswer) → CanStepUnder subject a s → s.memory.pointers ≡ [] → run steps s answers ≡ plain steps s answers

  none_resumed : (kind : PendingCall) (answer : HelperAnswer) (w t : State) → w.memory.pointers ≡ [] → resume kind answer w ≡ Resumes t → t.memory.pointers ≡ []
  none_resumed (asked.Reserve len) Granted w t none e = subst NoneLeft e none
  none_resumed (asked.Reserve len) Null w t none e = subst NoneLeft e none
  none_resumed asked.GiveBack Taken w t none e = subst NoneLeft e none
  none_resumed asked.Output (Code n) w t none e = subst NoneLeft e none
  none_resumed asked.Query (Told n) w t none e = subst NoneLeft e none
  none_resumed kind answer w t none e = absurd (cc)

  resumed_alike : (steps : ℕ) (answers : List HelperAnswer) (r : Resumption) → AreAlike steps → ((t : State) → r ≡ Resumes t → CanStepUnder subject a t × (t.memory.pointers ≡ [])) → run_resumed (run steps) r answers ≡ run_resumed (plain steps) r answers
  resumed_alike steps answers (Resumes t) alike can = alike t answers (can t refl).0 (can t refl).1
  resumed_alike steps answers Strays alike can = refl
  resumed_alike steps answers Unfit alike can = refl

  followed_alike : (steps : ℕ) (s : State) (answers : List HelperAnswer) (effect : StepEffect) → AreAlike steps → IsSoundUnder subject a s effect → KeepsNone effect → run_followed (run steps) effect answers ≡ run_followed (plain steps) effect answers
  followed_alike steps s answers (Goes t) alike h none = alike t answers h.next none
  followed_alike steps s answers (Ends n) alike h none = refl
  followed_alike steps s [] (Asks call w) alike h none = refl
  followed_alike steps s (answer ∷ answers) (Asks call w) alike h none =
      ap (then_run call) (resumed_alike steps answers (resume (pending_call_of call) answer w) alike (λ t e. (h.next answer t e, none_resumed (pending_call_of call) answer w t none e)))
  followed_alike steps s answers Stuck alike h none = refl

  all_alike : (steps : ℕ) → AreAlike steps
  all_alike zero s answers u none = refl
  all_alike (suc steps) s answers u none =
      let insn : Insn = u.begins.0 in
      let begins : slot_at subject.program s.unit ≡ Some insn = u.begins.1 in
      let held : HoldsPlainly (limits_of subject) a (unit_count subject.program) s.unit insn = valid.each s.unit insn (begins-lt subject.program s.unit insn begins) begins in
      let same : execute insn s ≡ plain_execute insn s = same_row insn s held.effect u none held.checks in
      let sound : IsSoundUnder subject a s (execute insn s) = instruction_keeps subject s (can_step subject a s u) insn begins in
      let kept : KeepsNone (execute insn s) = subst KeepsNone (sym same) (none_kept insn s none) in
      let first : run (suc steps) s answers ≡ run_followed (run steps) (execute insn s) answers = ap (λ slot. run_followed (run steps) (execute_at slot s) answers) begins in
      let last : run_followed (plain steps) (plain_execute insn s) answers ≡ plain (suc steps) s answers = ap (λ slot. run_followed (plain steps) (plain_execute_at slot s) answers) (sym begins) in
      first ∙ (followed_alike steps s answers (execute insn s) (all_alike steps) sound kept ∙ (ap (λ effect. run_followed (plain steps) effect answers) same ∙ last))

pub plain_alike : PlainProgramsRunAlike
plain_alike subject a context steps answers shaped first valid long =
    let c = can_start_under subject a context shaped first (plain_valid (limits_of subject) subject.program a valid) long in
    all_alike subject a valid steps (entry_program_state context) answers c refl
