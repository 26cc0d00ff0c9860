-- From a state that agrees with a valid annotation, each instruction has a meaning and leads to such a state.
use Rattle.std.proofs.Common.{◌≡◌, ℕ, zero, suc, ◌<◌, true, false, eqb, List, [], ◌∷◌, Some, None, length, sym, ap, subst, ◌∙◌, refl, arith}
use Rattle.std.specs.Prelude.{not}
use Rattle.std.proofs.lemmas.List.{length-replicate}
use Rattle.rb_insn.specs.declared.insn.Insn.{Insn}
use Rattle.rb_insn.specs.declared.insn.Insn.TheVariants.{Binary, Division, Negate, Move, MoveExtended32, MoveExtended64, Reorder, Jump, JumpFar, Branch, Call, Exit, LoadNumber, LoadRing, Load, LoadSigned, StoreImmediate, StoreRegister}
use Rattle.rb_insn.specs.declared.insn.Operand.TheVariants.{Immediate, Register}
use Rattle.rb_insn.specs.declared.insn.Width.TheVariants.{W32, W64}
use Rattle.rb_insn.specs.ArithmeticAndJumps.{value_of}
use Rattle.rb_program.specs.Program.{slot_at, unit_count}
use Rattle.rb_program.proofs.Laws.{is_laid_out}
use Rattle.rb_program.specs.Shape.{IsWellShaped, IsInstructionStart}
use Rattle.rb_program.proofs.ShapeLaws.{edges_forward, begins-lt}
use Rattle.rb_verifier.specs.declared.rule.Rule.TheVariants as rule
use Rattle.rb_verifier.specs.declared.references.Reference.{Reference}
use Rattle.rb_verifier.specs.declared.value.Abs.TheVariants as abs
use Rattle.rb_verifier.specs.ValueChecks.{refused_if, check_number}
use Rattle.rb_verifier.specs.HelperChecks.{helper_of}
use Rattle.rb_insn.specs.declared.insn.SignedSize.{SignedSize}
use Rattle.rb_insn.specs.declared.insn.SignedSize.TheVariants as signed
use Rattle.rb_insn.specs.Sizes.{signed_byte_count}
use Rattle.rb_verifier.specs.StackPlaces.{whole_place}
use Rattle.rb_verifier.specs.References.{is_empty}
use Rattle.rb_verifier.specs.AbstractStates.{value_in, effect_on_both, entry_state}
use Rattle.rb_verifier.specs.VerifierChecks as table
use Rattle.rb_verifier.proofs.Laws.{step_forms, form_entry, form_below, known-listed}
use Rattle.rb_verifier.specs.Annotation.{Annotation, HoldsAt, IsValid, HasValid}
use Rattle.rb_verifier.specs.Subject.{Subject, limits_of}
use Rattle.rb_semantics.specs.declared.value.Value.TheVariants.{Number}
use Rattle.rb_semantics.specs.ProgramStates.{State, register, entry_program_state}
use Rattle.rb_semantics.specs.Instructions.{execute, execute_at, next_step, execute_exit, signed_number}
use Rattle.rb_semantics.specs.Agreement.{AgreesValue, HasReference, IsBoundedValue, AgreesPlaces, Agrees}
use Rattle.rb_semantics.specs.Soundness.{CanStep, IsSoundEffect}
use Rattle.rb_semantics.proofs.Ids.{not_equal}
use Rattle.rb_semantics.proofs.Keeping.{CanStepUnder, IsSoundUnder, can_step, sound_so}
use Rattle.rb_semantics.proofs.Held.{held_none}
use Rattle.rb_semantics.proofs.Values.{number_value}
use Rattle.rb_semantics.proofs.Changes.{agrees_below}
use Rattle.rb_semantics.proofs.Checks.{passed, number_passed}
use Rattle.rb_semantics.proofs.Rows.{past, known, Follows, Sound, IsEffect}
use Rattle.rb_semantics.proofs.Moves.{given_sound, copied_sound, converted_sound, altered_sound, ring_sound, divided_sound}
use Rattle.rb_semantics.proofs.Sums.{binary_sound}
use Rattle.rb_semantics.proofs.Accesses.{loaded_sound, filled_sound}
use Rattle.rb_semantics.proofs.Stores.{stored_sound, spilled_sound}
use Rattle.rb_semantics.proofs.Branches.{jumps_to, branch_sound}
use Rattle.rb_semantics.proofs.Calling.{call_sound}

-- a sign-extending load never loads a whole place
signed_part : (size : SignedSize) (at : ℕ) → whole_place at (signed_byte_count size) ≡ None
signed_part signed.Byte at = refl
signed_part signed.Half at = refl
signed_part signed.Word at = refl

none_held : (held : List Reference) → not (is_empty held) ≡ false → held ≡ []
none_held [] e = refl
none_held (q ∷ held) e = absurd (let n : eqb (length (q ∷ held)) 0 ≡ false = not_equal (length (q ∷ held)) 0 (omega arith) in let f : true ≡ false = ap not (sym n) ∙ e in cc)

module _ (subject : Subject) (s : State) (c : CanStep subject s) where
  exit_sound : (begins : slot_at subject.program s.unit ≡ Some Exit) → Sound subject s c Exit begins (execute_exit (register s 0)) (table.check_exit (known subject s c))
  exit_sound begins =
      let a = known subject s c in
      let P = Follows subject s c Exit begins (execute_exit (register s 0)) in
      past P (refused_if (not (is_empty a.held)) rule.ReferenceLeft) _ (λ i e. past P (check_number rule.ResultNotNumber (value_in a 0)) _ (λ j f.
      let n = number_value s.memory.records (value_in a 0) (register s 0) (number_passed rule.ResultNotNumber (value_in a 0) j f) (c.agrees.values 0) in
      subst (λ v. Follows subject s c Exit begins (execute_exit v) (effect_on_both a)) (sym n.1)
      (λ h. held_none a.held s.memory.records (none_held a.held (passed (not (is_empty a.held)) rule.ReferenceLeft i e)) c.agrees.records)))

  -- each kind of instruction
  row_sound : (insn : Insn) (begins : slot_at subject.program s.unit ≡ Some insn) → Sound subject s c insn begins (execute insn s) (table.abstract_step (limits_of subject) s.unit insn (known subject s c))
  unfolding execute table.abstract_step
  row_sound (Move width dst (Immediate k)) begins =
      given_sound subject s c (Move width dst (Immediate k)) begins refl dst (abs.Known (value_of (Move width dst (Immediate k)) 0 0)) (Number (value_of (Move width dst (Immediate k)) 0 0)) refl tt tt
  row_sound (Move W64 dst (Register src)) begins = copied_sound subject s c (Move W64 dst (Register src)) begins refl dst src
  row_sound (Move W32 dst (Register src)) begins = converted_sound subject s c (Move W32 dst (Register src)) begins refl dst src
  row_sound (MoveExtended32 low dst src) begins = converted_sound subject s c (MoveExtended32 low dst src) begins refl dst src
  row_sound (MoveExtended64 low dst src) begins = converted_sound subject s c (MoveExtended64 low dst src) begins refl dst src
  row_sound (Negate width dst) begins = altered_sound subject s c (Negate width dst) begins refl dst
  row_sound (Reorder order width dst) begins = altered_sound subject s c (Reorder order width dst) begins refl dst
  row_sound (Division width op sign dst operand) begins = divided_sound subject s c (Division width op sign dst operand) begins refl dst operand
  row_sound (Binary width op dst operand) begins = binary_sound subject s c (Binary width op dst operand) begins refl width op dst operand
  row_sound (LoadNumber dst n) begins = given_sound subject s c (LoadNumber dst n) begins refl dst (abs.Known n) (Number n) refl tt tt
  row_sound (LoadRing dst ring) begins = ring_sound subject s c (LoadRing dst ring) begins refl dst ring
  row_sound (Load size dst base by) begins = filled_sound subject s c (Load size dst base by) begins refl dst base by size
  row_sound (LoadSigned size dst base by) begins = loaded_sound subject s c (LoadSigned size dst base by) begins refl dst base by (signed_byte_count size) (signed_number (signed_byte_count size)) (signed_part size)
  row_sound (StoreImmediate size base by k) begins = stored_sound subject s c (StoreImmediate size base by k) begins refl base by size abs.Number _ (_, refl) tt
  row_sound (StoreRegister size base by src) begins = spilled_sound subject s c (StoreRegister size base by src) begins refl base by size (value_in (known subject s c) src.number) (register s src.number) (c.agrees.values src.number) (c.agrees.tied src.number) (c.agrees.bounded src.number)
  row_sound (Branch width condition dst operand distance) begins = branch_sound subject s c width condition dst operand distance begins
  row_sound (Jump distance) begins = jumps_to subject s c (Jump distance) begins distance refl (effect_on_both (known subject s c)) c.agrees
  row_sound (JumpFar distance) begins = jumps_to subject s c (JumpFar distance) begins distance refl (effect_on_both (known subject s c)) c.agrees
  row_sound (Call code) begins = call_sound subject s c code begins (helper_of code)
  row_sound Exit begins = exit_sound begins

  -- the effect that the annotation has at an instruction
  effect_here : (insn : Insn) (begins : slot_at subject.program s.unit ≡ Some insn) (h : HoldsAt (limits_of subject) c.annotation (unit_count subject.program) s.unit insn) → IsEffect subject s c insn begins h.effect
  effect_here insn begins h = record {
    forms = step_forms (limits_of subject) s.unit insn (known subject s c) h.effect c.formed h.checks;
    edges = λ edge to there.
        let forward : (s.unit < to) × IsInstructionStart subject.program to = edges_forward subject.program (is_laid_out subject.program) c.well_shaped s.unit edge to (record { insn = insn; begins = begins; leads_to = there }) in
        h.edges edge to there (begins-lt subject.program to forward.1.0 forward.1.1);
  }

  -- the instruction's effect keeps the annotation
  pub instruction_keeps : (insn : Insn) → slot_at subject.program s.unit ≡ Some insn → IsSoundUnder subject c.annotation s (execute insn s)
  instruction_keeps insn begins =
      let h : HoldsAt (limits_of subject) c.annotation (unit_count subject.program) s.unit insn = c.valid.each s.unit insn (begins-lt subject.program s.unit insn begins) begins in
      subst (Sound subject s c insn begins (execute insn s)) h.checks (row_sound insn begins) (effect_here insn begins h)

  pub instruction_sound : (insn : Insn) → slot_at subject.program s.unit ≡ Some insn → IsSoundEffect subject s (execute insn s)
  instruction_sound insn begins = sound_so subject c.annotation s (execute insn s) (instruction_keeps insn begins)

pub sound : (subject : Subject) (s : State) → CanStep subject s → IsSoundEffect subject s (next_step subject.program s)
sound subject s c = subst (λ slot. IsSoundEffect subject s (execute_at slot s)) (sym c.begins.1) (instruction_sound subject s c c.begins.0 c.begins.1)

-- the entry state of a program agrees with the abstract entry state
entry_values : (context : List ℕ) (r : ℕ) → AgreesValue [] (value_in entry_state r) (register (entry_program_state context) r)
entry_values context zero = tt
entry_values context (suc zero) = refl
entry_values context (suc (suc zero)) = tt
entry_values context (suc (suc (suc zero))) = tt
entry_values context (suc (suc (suc (suc zero)))) = tt
entry_values context (suc (suc (suc (suc (suc zero))))) = tt
entry_values context (suc (suc (suc (suc (suc (suc zero)))))) = tt
entry_values context (suc (suc (suc (suc (suc (suc (suc zero))))))) = tt
entry_values context (suc (suc (suc (suc (suc (suc (suc (suc zero)))))))) = tt
entry_values context (suc (suc (suc (suc (suc (suc (suc (suc (suc zero))))))))) = tt
entry_values context (suc (suc (suc (suc (suc (suc (suc (suc (suc (suc zero)))))))))) = refl
entry_values context (suc (suc (suc (suc (suc (suc (suc (suc (suc (suc (suc r))))))))))) = tt

entry_tied : (r : ℕ) → HasReference [] (value_in entry_state r)
entry_tied zero = tt
entry_tied (suc zero) = tt
entry_tied (suc (suc zero)) = tt
entry_tied (suc (suc (suc zero))) = tt
entry_tied (suc (suc (suc (suc zero)))) = tt
entry_tied (suc (suc (suc (suc (suc zero))))) = tt
entry_tied (suc (suc (suc (suc (suc (suc zero)))))) = tt
entry_tied (suc (suc (suc (suc (suc (suc (suc zero))))))) = tt
entry_tied (suc (suc (suc (suc (suc (suc (suc (suc zero)))))))) = tt
entry_tied (suc (suc (suc (suc (suc (suc (suc (suc (suc zero))))))))) = tt
entry_tied (suc (suc (suc (suc (suc (suc (suc (suc (suc (suc zero)))))))))) = tt
entry_tied (suc (suc (suc (suc (suc (suc (suc (suc (suc (suc (suc r))))))))))) = tt

entry_bounded : (rings : ℕ) (context : List ℕ) (r : ℕ) → IsBoundedValue rings (register (entry_program_state context) r)
entry_bounded rings context zero = tt
entry_bounded rings context (suc zero) = refl
entry_bounded rings context (suc (suc zero)) = tt
entry_bounded rings context (suc (suc (suc zero))) = tt
entry_bounded rings context (suc (suc (suc (suc zero)))) = tt
entry_bounded rings context (suc (suc (suc (suc (suc zero))))) = tt
entry_bounded rings context (suc (suc (suc (suc (suc (suc zero)))))) = tt
entry_bounded rings context (suc (suc (suc (suc (suc (suc (suc zero))))))) = tt
entry_bounded rings context (suc (suc (suc (suc (suc (suc (suc (suc zero)))))))) = tt
entry_bounded rings context (suc (suc (suc (suc (suc (suc (suc (suc (suc zero))))))))) = tt
entry_bounded rings context (suc (suc (suc (suc (suc (suc (suc (suc (suc (suc zero)))))))))) = refl
entry_bounded rings context (suc (suc (suc (suc (suc (suc (suc (suc (suc (suc (suc r))))))))))) = tt

-- the stack holds data and no pointer
entry_places : (rings : ℕ) (context : List ℕ) → AgreesPlaces rings entry_state.held entry_state.places (entry_program_state context).memory
entry_places rings context = record {
  values = λ place lt. rw (known-listed (λ place. abs.Number) place lt) (_, refl);
  tied = λ place lt. rw (known-listed (λ place. abs.Number) place lt) tt;
  pointers = λ place v e. absurd (cc);
}

entry_agrees : (subject : Subject) (context : List ℕ) → length context ≡ subject.ctx_len → Agrees subject entry_state (entry_program_state context)
entry_agrees subject context long = record {
  count = refl;
  values = entry_values context;
  records = tt;
  tied = entry_tied;
  bounded = entry_bounded subject.rings context;
  stack = length-replicate {A = ℕ} 512 0;
  places = entry_places subject.rings context;
  context = long;
}

-- a verified program can take its first step under each valid annotation
pub can_start_under : (subject : Subject) (a : Annotation) (context : List ℕ) → IsWellShaped subject.program → IsInstructionStart subject.program 0 → IsValid (limits_of subject) subject.program a → length context ≡ subject.ctx_len → CanStepUnder subject a (entry_program_state context)
can_start_under subject a context shaped first valid long =
    let inside : 0 < unit_count subject.program = begins-lt subject.program 0 first.0 first.1 in
    record {
      well_shaped = shaped;
      valid = valid;
      begins = first;
      formed = form_below (valid.entry inside) (form_entry 0);
      agrees = agrees_below subject entry_state (a 0) (entry_program_state context) (valid.entry inside) (entry_agrees subject context long);
    }

pub can_start : (subject : Subject) (context : List ℕ) → IsWellShaped subject.program → IsInstructionStart subject.program 0 → HasValid (limits_of subject) subject.program → length context ≡ subject.ctx_len → CanStep subject (entry_program_state context)
can_start subject context shaped first has long = can_step subject has.0 (entry_program_state context) (can_start_under subject has.0 context shaped first has.1 long)
