-- Calls are sound, and so are their answers.
use Rattle.std.proofs.Common.{◌≡◌, ℕ, ◌+◌, ◌<◌, ℤ, pos, true, false, List, [], ◌∷◌, ◌++◌, Option, Some, None, length, find, replicate, sym, ap, subst, refl, arith, Result, Ok}
use Rattle.std.specs.Ordering.{int_eq}
use Rattle.std.proofs.lemmas.List.{length-replicate}
use Rattle.rb_insn.specs.WholeNumbers.{wrapped}
use Rattle.rb_insn.specs.declared.insn.Insn.TheVariants.{Call}
use Rattle.rb_program.specs.Program.{slot_at}
use Rattle.rb_program.specs.Edges.{Next}
use Rattle.rb_program.proofs.ShapeLaws.{leads-goes_on}
use Rattle.rb_verifier.specs.declared.references.Reference.{Reference}
use Rattle.rb_verifier.specs.declared.helper.Helper.{Helper}
use Rattle.rb_verifier.specs.declared.helper.Helper.TheVariants as helper
use Rattle.rb_verifier.specs.declared.rule.Rule.{Rule}
use Rattle.rb_verifier.specs.declared.rule.Rule.TheVariants as rule
use Rattle.rb_verifier.specs.declared.state.AbsState.{AbsState}
use Rattle.rb_verifier.specs.declared.state.Effect as refs
use Rattle.rb_verifier.specs.declared.value.Abs.{Abs}
use Rattle.rb_verifier.specs.declared.value.Abs.TheVariants as abs
use Rattle.rb_verifier.specs.ReferenceChanges.{given_back_state}
use Rattle.rb_verifier.specs.ValueChecks.{refused_if, check_tested, check_number, check_inside, check_ring, check_part_pointer, check_known_size, check_record_size, check_record_start}
use Rattle.rb_verifier.specs.KeptPointers.{known_in, byte_behind, check_data}
use Rattle.rb_verifier.specs.HelperChecks as table
use Rattle.rb_verifier.specs.References.{has_id, is_full}
use Rattle.rb_verifier.specs.AbstractStates.{value_in, effect_on_both}
use Rattle.rb_verifier.specs.Annotation.{Annotation}
use Rattle.rb_verifier.specs.Subject.{Subject, limits_of, calls}
use Rattle.rb_semantics.specs.declared.pending_call.PendingCall.TheVariants as asked
use Rattle.rb_semantics.specs.declared.value.MemoryRegion.TheVariants.{Record}
use Rattle.rb_semantics.specs.declared.value.Value.{Value}
use Rattle.rb_semantics.specs.declared.value.Value.TheVariants.{Nothing, Number, Pointer, Ring}
use Rattle.rb_semantics.specs.ProgramMemory.{Memory, record_named, without, holding}
use Rattle.rb_semantics.specs.ProgramStates.{State, register, pointed}
use Rattle.rb_semantics.specs.HelperCalls.{HelperCall, Reserve, Submit, Discard, Output, Query, pending_call_of, Granted, Null, Taken, HandedBack, Code, Told, Resumes, waiting, call_reserve, call_give_back, call_output, call_query, call_of_helper, with_answer}
use Rattle.rb_semantics.specs.Instructions.{StepEffect, waits_for}
use Rattle.rb_semantics.specs.ProgramRuns.{given_back_count}
use Rattle.rb_semantics.specs.Agreement.{reserved_value, AgreesValue, AreHeld, IsTested, HasReference, IsBoundedValue, Agrees}
use Rattle.rb_semantics.specs.Soundness.{CanStep, IsLawful}
use Rattle.rb_semantics.proofs.Keeping.{CanStepUnder, CanAnswerUnder}
use Rattle.rb_semantics.proofs.Ids.{apart_earlier, found_new}
use Rattle.rb_semantics.proofs.Records.{named_push_new}
use Rattle.rb_semantics.proofs.Held.{held_absent, held_found, held_removed}
use Rattle.rb_semantics.proofs.Values.{number_value}
use Rattle.rb_semantics.proofs.Changes.{agrees_answered, agrees_given_back, with_new, agrees_granted, agrees_refused}
use Rattle.rb_semantics.proofs.Checks.{number_passed, ring_passed, size_passed, record_size_passed, IsStart, start_passed}
use Rattle.rb_semantics.proofs.Accesses.{value_read, inside_passed}
use Rattle.rb_semantics.proofs.Rows.{past, known, Follows, Sound, IsEffect, can_go}

-- the record of a reference that was tested
record_there : (held : List Reference) (rs : List (ℕ × List ℕ)) (id : ℕ) (found : Option Reference) → find (has_id id) held ≡ found → IsTested true found → AreHeld held rs → (b : List ℕ) × (record_named id rs ≡ Some b)
record_there held rs id None f t k = absurd t
record_there held rs id (Some q) f t k = let b = held_found id held rs q f t k in (b.0, b.1)

-- the values of the registers that a call reads
asks_reserve : (s : State) (v w x : Value) (ring len flags : ℕ) → v ≡ Ring ring → w ≡ Number len → x ≡ Number flags → call_reserve v w x s ≡ Some (Reserve s.unit ring len flags, waiting s)
asks_reserve s v w x ring len flags e f g = rw (e, f, g) refl

asks_query : (s : State) (v w : Value) (ring what : ℕ) → v ≡ Ring ring → w ≡ Number what → call_query v w s ≡ Some (Query ring what, waiting s)
asks_query s v w ring what e f = rw (e, f) refl

asks_output : (s : State) (v from w x : Value) (ring len flags : ℕ) (b : List ℕ) → v ≡ Ring ring → w ≡ Number len → x ≡ Number flags → pointed s.memory from (pos 0) len ≡ Some b → call_output v from w x s ≡ Some (Output ring b flags, waiting s)
asks_output s v from w x ring len flags b e f g h = rw (e, f, g) (rw h refl)

asks_give_back : (s : State) (call : ℕ → List ℕ → ℕ → HelperCall) (v w : Value) (id flags : ℕ) (o : ℤ) (b : List ℕ) → v ≡ Pointer (Record id) o → w ≡ Number flags → int_eq o (pos 0) ≡ true → record_named id s.memory.records ≡ Some b
    → call_give_back call v w s ≡ Some (call id b flags, waiting (record s { memory = without id s.memory }))
asks_give_back s call v w id flags o b e f g h = rw (e, f) (rw (g, h) refl)

pub resumes_is : (t u : State) → Resumes t ≡ Resumes u → t ≡ u
resumes_is t u e = cc

module _ (subject : Subject) (annotation : Annotation) where
  -- the program can step after each answer of the right kind
  can_reserve : (len : ℕ) (w : State) → CanStepUnder subject annotation (with_answer (Pointer (Record w.unit) (pos 0)) (record w { memory = holding w.unit (replicate len 0) w.memory })) → CanStepUnder subject annotation (with_answer (Number 0) w) → CanAnswerUnder subject annotation (asked.Reserve len) w
  can_reserve len w h k Granted t e = subst (CanStepUnder subject annotation) (resumes_is _ _ e) h
  can_reserve len w h k Null t e = subst (CanStepUnder subject annotation) (resumes_is _ _ e) k
  can_reserve len w h k Taken t e = absurd (cc)
  can_reserve len w h k HandedBack t e = absurd (cc)
  can_reserve len w h k (Code n) t e = absurd (cc)
  can_reserve len w h k (Told n) t e = absurd (cc)

  can_give_back : (w : State) → CanStepUnder subject annotation (with_answer Nothing w) → CanAnswerUnder subject annotation asked.GiveBack w
  can_give_back w h Granted t e = absurd (cc)
  can_give_back w h Null t e = absurd (cc)
  can_give_back w h Taken t e = subst (CanStepUnder subject annotation) (resumes_is _ _ e) h
  can_give_back w h HandedBack t e = absurd (cc)
  can_give_back w h (Code n) t e = absurd (cc)
  can_give_back w h (Told n) t e = absurd (cc)

  can_output : (w : State) → ((n : ℕ) → CanStepUnder subject annotation (with_answer (Number n) w)) → CanAnswerUnder subject annotation asked.Output w
  can_output w h Granted t e = absurd (cc)
  can_output w h Null t e = absurd (cc)
  can_output w h Taken t e = absurd (cc)
  can_output w h HandedBack t e = absurd (cc)
  can_output w h (Code n) t e = subst (CanStepUnder subject annotation) (resumes_is _ _ e) (h (wrapped 64 n))
  can_output w h (Told n) t e = absurd (cc)

  can_query : (w : State) → ((n : ℕ) → CanStepUnder subject annotation (with_answer (Number n) w)) → CanAnswerUnder subject annotation asked.Query w
  can_query w h Granted t e = absurd (cc)
  can_query w h Null t e = absurd (cc)
  can_query w h Taken t e = absurd (cc)
  can_query w h HandedBack t e = absurd (cc)
  can_query w h (Code n) t e = absurd (cc)
  can_query w h (Told n) t e = subst (CanStepUnder subject annotation) (resumes_is _ _ e) (h n)

module _ (subject : Subject) (s : State) (c : CanStep subject s) (code : ℕ) (begins : slot_at subject.program s.unit ≡ Some (Call code)) where
  abbrev a : AbsState
  a = known subject s c

  abbrev Given : StepEffect → Result refs.Effect Rule → Type 0
  Given = Sound subject s c (Call code) begins

  abbrev Leads : StepEffect → refs.Effect → Type 0
  Leads = Follows subject s c (Call code) begins

  -- the abstract value of an argument, and its value
  abbrev arg : ℕ → Abs
  arg r = value_in a r

  holds : (r : ℕ) → AgreesValue s.memory.records (arg r) (register s r)
  holds r = c.agrees.values r

  ring_held : (r ring : ℕ) → check_ring (arg r) ≡ Ok ring → register s r ≡ Ring ring
  ring_held r ring e = subst (λ x. AgreesValue s.memory.records x (register s r)) (ring_passed (arg r) ring e) (holds r)

  ring_known : (r ring : ℕ) → register s r ≡ Ring ring → ring < subject.rings
  ring_known r ring e = subst (IsBoundedValue subject.rings) e (c.agrees.bounded r)

  number_held : (r : ℕ) (i : Unit {0}) → check_number rule.HelperArgument (arg r) ≡ Ok i → (n : ℕ) × (register s r ≡ Number n)
  number_held r i e = number_value s.memory.records (arg r) (register s r) (number_passed rule.HelperArgument (arg r) i e) (holds r)

  -- the program can step in the state after an answer
  answered_can_step : (known_then : AbsState) (m : Memory) (x : Abs) (v : Value) → IsEffect subject s c (Call code) begins (effect_on_both (table.after_answer x known_then)) → AgreesValue m.records x v → HasReference known_then.held x → IsBoundedValue subject.rings v → Agrees subject known_then (record s { memory = m })
      → CanStepUnder subject c.annotation (with_answer v (waiting (record s { memory = m })))
  answered_can_step known_then m x v h k t b g =
      can_go subject s c (Call code) begins Next (effect_on_both (table.after_answer x known_then)) (s.unit + 1) (with_answer v (waiting (record s { memory = m }))) (leads-goes_on s.unit (Call code) refl) h
      (agrees_answered subject known_then (record s { memory = m }) x v k t b g) refl

  -- a call that returns a number
  number_answered : IsEffect subject s c (Call code) begins (effect_on_both (table.after_answer abs.Number a)) → (n : ℕ) → CanStepUnder subject c.annotation (with_answer (Number n) (waiting s))
  number_answered h n = answered_can_step a s.memory abs.Number (Number n) h (n, refl) tt tt c.agrees

  output_sound : Given (waits_for (call_output (register s 1) (register s 2) (register s 3) (register s 4) s)) (table.check_output (limits_of subject) a)
  output_sound =
      let P = Leads (waits_for (call_output (register s 1) (register s 2) (register s 3) (register s 4) s)) in
      past P (check_ring (arg 1)) _ (λ ring e1. past P (check_tested (arg 2)) _ (λ _ _. past P (check_part_pointer (arg 2)) _ (λ _ _. past P (check_known_size (arg 3)) _ (λ len e3.
      past P (check_inside (limits_of subject) a.held (arg 2) (pos 0) len) _ (λ i e2. past P (check_data (byte_behind (arg 2) (pos 0)) len (known_in a.places)) _ (λ d e5. past P (check_number rule.HelperArgument (arg 4)) _ (λ j e4.
      let v1 = ring_held 1 ring e1 in
      let v3 : register s 3 ≡ Number len = subst (λ x. AgreesValue s.memory.records x (register s 3)) (size_passed (arg 3) len e3) (holds 3) in
      let v4 = number_held 4 j e4 in
      let b = value_read subject a s c.agrees (arg 2) (register s 2) (pos 0) len d (inside_passed subject a.held (arg 2) (pos 0) len i e2) (holds 2) (c.agrees.tied 2) e5 in
      subst (λ call. Leads (waits_for call) (effect_on_both (table.after_answer abs.Number a))) (sym (asks_output s (register s 1) (register s 2) (register s 3) (register s 4) ring len v4.0 b.0 v1 v3 v4.1 b.1))
      (λ h. record { at_call = ap calls begins; here = refl; lawful = ring_known 1 ring v1; held = omega arith; next = can_output subject c.annotation (waiting s) (number_answered h) }))))))))

  query_sound : Given (waits_for (call_query (register s 1) (register s 2) s)) (table.check_query a)
  query_sound =
      let P = Leads (waits_for (call_query (register s 1) (register s 2) s)) in
      past P (check_ring (arg 1)) _ (λ ring e1. past P (check_number rule.HelperArgument (arg 2)) _ (λ j e2.
      let v1 = ring_held 1 ring e1 in
      let v2 = number_held 2 j e2 in
      subst (λ call. Leads (waits_for call) (effect_on_both (table.after_answer abs.Number a))) (sym (asks_query s (register s 1) (register s 2) ring v2.0 v1 v2.1))
      (λ h. record { at_call = ap calls begins; here = refl; lawful = ring_known 1 ring v1; held = omega arith; next = can_query subject c.annotation (waiting s) (number_answered h) })))

  -- a granted record, and null
  granted_can_step : (ring len : ℕ) → IsEffect subject s c (Call code) begins (effect_on_both (table.after_reserve s.unit ring len a)) → CanStepUnder subject c.annotation (with_answer (Pointer (Record s.unit) (pos 0)) (waiting (record s { memory = holding s.unit (replicate len 0) s.memory })))
  granted_can_step ring len h =
      let zeros : List ℕ = replicate len 0 in
      let apart = apart_earlier s.unit a.held c.formed.earlier in
      let none : record_named s.unit s.memory.records ≡ None = held_absent s.unit a.held s.memory.records apart c.agrees.records in
      let there : record_named s.unit (s.memory.records ++ (s.unit, zeros) ∷ []) ≡ Some zeros = named_push_new s.unit zeros s.memory.records none in
      answered_can_step (with_new subject s.unit ring len a) (holding s.unit zeros s.memory) (abs.Perhaps s.unit) (Pointer (Record s.unit) (pos 0)) h (sym (ap (reserved_value s.unit) there))
      (rw (found_new (record { id = s.unit; ring = ring; size = len; sure = false }) a.held apart) refl) refl
      (agrees_granted subject a s s.unit ring len zeros (length-replicate {A = ℕ} len 0) c.formed.earlier c.agrees)

  null_can_step : (ring len : ℕ) → IsEffect subject s c (Call code) begins (effect_on_both (table.after_reserve s.unit ring len a)) → CanStepUnder subject c.annotation (with_answer (Number 0) (waiting s))
  null_can_step ring len h =
      let apart = apart_earlier s.unit a.held c.formed.earlier in
      let none : record_named s.unit s.memory.records ≡ None = held_absent s.unit a.held s.memory.records apart c.agrees.records in
      answered_can_step (with_new subject s.unit ring len a) s.memory (abs.Perhaps s.unit) (Number 0) h (sym (ap (reserved_value s.unit) none))
      (rw (found_new (record { id = s.unit; ring = ring; size = len; sure = false }) a.held apart) refl) tt
      (agrees_refused subject a s s.unit ring len c.agrees)

  reserve_sound : Given (waits_for (call_reserve (register s 1) (register s 2) (register s 3) s)) (table.check_reserve s.unit a)
  reserve_sound =
      let P = Leads (waits_for (call_reserve (register s 1) (register s 2) (register s 3) s)) in
      past P (check_ring (arg 1)) _ (λ ring e1. past P (check_record_size (arg 2)) _ (λ len e2. past P (check_number rule.HelperArgument (arg 3)) _ (λ j e3. past P (refused_if (is_full a.held) rule.TooManyReferences) _ (λ _ _.
      let v1 = ring_held 1 ring e1 in
      let size = record_size_passed (arg 2) len e2 in
      let v2 : register s 2 ≡ Number len = subst (λ x. AgreesValue s.memory.records x (register s 2)) size.0 (holds 2) in
      let v3 = number_held 3 j e3 in
      subst (λ call. Leads (waits_for call) (effect_on_both (table.after_reserve s.unit ring len a))) (sym (asks_reserve s (register s 1) (register s 2) (register s 3) ring len v3.0 v1 v2 v3.1))
      (λ h. record { at_call = ap calls begins; here = refl; lawful = (ring_known 1 ring v1, size.1); held = omega arith; next = can_reserve subject c.annotation len (waiting s) (granted_can_step ring len h) (null_can_step ring len h) })))))

  -- a call that submits or discards a record
  give_back_sound : (call : ℕ → List ℕ → ℕ → HelperCall) → ((id : ℕ) (b : List ℕ) (flags : ℕ) → IsLawful subject (call id b flags)) → ((id : ℕ) (b : List ℕ) (flags : ℕ) → pending_call_of (call id b flags) ≡ asked.GiveBack) → ((id : ℕ) (b : List ℕ) (flags : ℕ) → given_back_count (call id b flags ∷ []) ≡ 1)
      → Given (waits_for (call_give_back call (register s 1) (register s 2) s)) (table.check_give_back a)
  give_back_sound call lawful kind one =
      let P = Leads (waits_for (call_give_back call (register s 1) (register s 2) s)) in
      past P (check_record_start (arg 1)) _ (λ id e1. past P (check_number rule.HelperArgument (arg 2)) _ (λ j e2.
      let start : IsStart (arg 1) id = start_passed (arg 1) id e1 in
      let v1 : register s 1 ≡ Pointer (Record id) start.offset = subst (λ x. AgreesValue s.memory.records x (register s 1)) start.points (holds 1) in
      let v2 = number_held 2 j e2 in
      let tied : IsTested true (find (has_id id) a.held) = subst (HasReference a.held) start.points (c.agrees.tied 1) in
      let b = record_there a.held s.memory.records id (find (has_id id) a.held) refl tied c.agrees.records in
      let removed : length (without id s.memory).records + 1 ≡ length s.memory.records = held_removed id b.0 a.held s.memory.records c.formed.ascending c.agrees.records b.1 in
      subst (λ asked. Leads (waits_for asked) (effect_on_both (table.after_answer abs.Unreadable (given_back_state id a)))) (sym (asks_give_back s call (register s 1) (register s 2) id v2.0 start.offset b.0 v1 v2.1 start.first b.1))
      (λ h. record {
        at_call = ap calls begins;
        here = refl;
        lawful = lawful id b.0 v2.0;
        held = let given : given_back_count (call id b.0 v2.0 ∷ []) ≡ 1 = one id b.0 v2.0 in rw given removed;
        next = subst (λ asked. CanAnswerUnder subject c.annotation asked (waiting (record s { memory = without id s.memory }))) (sym (kind id b.0 v2.0)) (can_give_back subject c.annotation (waiting (record s { memory = without id s.memory }))
            (answered_can_step (given_back_state id a) (without id s.memory) abs.Unreadable Nothing h tt tt tt (agrees_given_back subject a s id tied c.agrees)));
      })))

  pub call_sound : (called : Option Helper) → Given (waits_for (call_of_helper called s)) (table.check_call (limits_of subject) s.unit called a)
  call_sound None = tt
  call_sound (Some helper.Output) = output_sound
  call_sound (Some helper.Reserve) = reserve_sound
  call_sound (Some helper.Submit) = give_back_sound Submit (λ id b flags. tt) (λ id b flags. refl) (λ id b flags. refl)
  call_sound (Some helper.Discard) = give_back_sound Discard (λ id b flags. tt) (λ id b flags. refl) (λ id b flags. refl)
  call_sound (Some helper.Query) = query_sound
