-- Moves and arithmetic are sound.
use Rattle.std.proofs.Common.{◌≡◌, ℕ, ◌<◌, true, false, List, Some, None, sym, ap, subst, ◌∙◌, refl, arith, Result, Ok, Err}
use Rattle.std.specs.Prelude.{nat_le}
use Rattle.std.proofs.lemmas.Bool.Decides.{nat_tests}
use Rattle.rb_insn.specs.declared.insn.Insn.{Insn}
use Rattle.rb_insn.specs.declared.insn.Operand.{Operand}
use Rattle.rb_insn.specs.declared.reg.Reg.{Reg}
use Rattle.rb_insn.specs.ArithmeticAndJumps.{value_of}
use Rattle.rb_program.specs.Program.{slot_at}
use Rattle.rb_program.specs.Edges.{falls_through}
use Rattle.rb_verifier.specs.declared.references.Reference.{Reference}
use Rattle.rb_verifier.specs.declared.rule.Rule.{Rule}
use Rattle.rb_verifier.specs.declared.rule.Rule.TheVariants as rule
use Rattle.rb_verifier.specs.declared.state.AbsState.{AbsState}
use Rattle.rb_verifier.specs.declared.state.Effect as refs
use Rattle.rb_verifier.specs.declared.value.Abs.{Abs}
use Rattle.rb_verifier.specs.declared.value.Abs.TheVariants as abs
use Rattle.rb_verifier.specs.AbstractArithmetic.{operand_value, abstract_result, check_numbers, check_arithmetic}
use Rattle.rb_verifier.specs.ValueChecks.{◌>>=◌, Check, refused_if, check_readable, check_writable, check_number}
use Rattle.rb_verifier.specs.AbstractStates.{value_in}
use Rattle.rb_verifier.specs.VerifierChecks as table
use Rattle.rb_verifier.specs.Subject.{Subject, limits_of}
use Rattle.rb_semantics.specs.declared.value.Value.{Value}
use Rattle.rb_semantics.specs.declared.value.Value.TheVariants.{Nothing, Number, Pointer, Ring}
use Rattle.rb_semantics.specs.ProgramStates.{State, register, operand_in}
use Rattle.rb_semantics.specs.Instructions as meaning
use Rattle.rb_semantics.specs.Instructions.{StepEffect}
use Rattle.rb_semantics.specs.Soundness.{CanStep}
use Rattle.rb_semantics.specs.Agreement.{AgreesValue, HasReference, IsBoundedValue}
use Rattle.rb_semantics.proofs.Values.{number_value}
use Rattle.rb_semantics.proofs.Checks.{passed, number_passed, readable_passed}
use Rattle.rb_semantics.proofs.Rows.{past, known, operand_agrees, Follows, Sound, gives_sound}

-- the abstract result of arithmetic agrees with the result
computed_agrees : (rs : List (ℕ × List ℕ)) (insn : Insn) (x y : Abs) (n m : ℕ) → AgreesValue rs x (Number n) → AgreesValue rs y (Number m) → AgreesValue rs (abstract_result insn x y) (Number (value_of insn n m))
computed_agrees rs insn (abs.Known i) (abs.Known j) n m h k = let e : n ≡ i = cc in let f : m ≡ j = cc in rw (e, f) refl
computed_agrees rs insn (abs.Known i) abs.Number n m h k = (_, refl)
computed_agrees rs insn (abs.Known i) abs.Unreadable n m h k = (_, refl)
computed_agrees rs insn (abs.Known i) (abs.Ctx o) n m h k = (_, refl)
computed_agrees rs insn (abs.Known i) (abs.Stack o) n m h k = (_, refl)
computed_agrees rs insn (abs.Known i) (abs.Ring j) n m h k = (_, refl)
computed_agrees rs insn (abs.Known i) (abs.Perhaps j) n m h k = (_, refl)
computed_agrees rs insn (abs.Known i) (abs.Record j o) n m h k = (_, refl)
computed_agrees rs insn abs.Number y n m h k = (_, refl)
computed_agrees rs insn abs.Unreadable y n m h k = (_, refl)
computed_agrees rs insn (abs.Ctx o) y n m h k = (_, refl)
computed_agrees rs insn (abs.Stack o) y n m h k = (_, refl)
computed_agrees rs insn (abs.Ring j) y n m h k = (_, refl)
computed_agrees rs insn (abs.Perhaps j) y n m h k = (_, refl)
computed_agrees rs insn (abs.Record j o) y n m h k = (_, refl)

computed_tied : (held : List Reference) (insn : Insn) (x y : Abs) → HasReference held (abstract_result insn x y)
computed_tied held insn (abs.Known i) (abs.Known j) = tt
computed_tied held insn (abs.Known i) abs.Number = tt
computed_tied held insn (abs.Known i) abs.Unreadable = tt
computed_tied held insn (abs.Known i) (abs.Ctx o) = tt
computed_tied held insn (abs.Known i) (abs.Stack o) = tt
computed_tied held insn (abs.Known i) (abs.Ring j) = tt
computed_tied held insn (abs.Known i) (abs.Perhaps j) = tt
computed_tied held insn (abs.Known i) (abs.Record j o) = tt
computed_tied held insn abs.Number y = tt
computed_tied held insn abs.Unreadable y = tt
computed_tied held insn (abs.Ctx o) y = tt
computed_tied held insn (abs.Stack o) y = tt
computed_tied held insn (abs.Ring j) y = tt
computed_tied held insn (abs.Perhaps j) y = tt
computed_tied held insn (abs.Record j o) y = tt

module _ (subject : Subject) (s : State) (c : CanStep subject s) (insn : Insn) (begins : slot_at subject.program s.unit ≡ Some insn) (on : falls_through insn ≡ true) where
  abbrev a : AbsState
  a = known subject s c

  abbrev pub IsGiven : StepEffect → Result refs.Effect Rule → Type 0
  IsGiven = Sound subject s c insn begins

  pub given_sound : (dst : Reg) (x : Abs) (v : Value) → AgreesValue s.memory.records x v → HasReference a.held x → IsBoundedValue subject.rings v → IsGiven (meaning.gives insn dst v s) (table.check_assign dst x a)
  given_sound dst x v h t b = past (Follows subject s c insn begins (meaning.gives insn dst v s)) (check_writable dst) _ (λ _ _. gives_sound subject s c insn begins dst x v on h t b)

  -- a copy of a value that may be read
  copied_value : (dst : Reg) (x : Abs) (v : Value) → (AgreesValue s.memory.records x Nothing → ⊥) → AgreesValue s.memory.records x v → HasReference a.held x → IsBoundedValue subject.rings v → Follows subject s c insn begins (meaning.execute_copy insn dst v s) (table.assignment_effect dst x a)
  copied_value dst x Nothing ne h t b = absurd (ne h)
  copied_value dst x (Number n) ne h t b = gives_sound subject s c insn begins dst x (Number n) on h t b
  copied_value dst x (Pointer p o) ne h t b = gives_sound subject s c insn begins dst x (Pointer p o) on h t b
  copied_value dst x (Ring n) ne h t b = gives_sound subject s c insn begins dst x (Ring n) on h t b

  pub copied_sound : (dst src : Reg) → IsGiven (meaning.execute_copy insn dst (register s src.number) s) (table.check_copy dst src a)
  copied_sound dst src =
      let P = Follows subject s c insn begins (meaning.execute_copy insn dst (register s src.number) s) in
      past P (check_writable dst) _ (λ _ _. past P (check_readable (value_in a src.number)) _ (λ x e.
      copied_value dst (value_in a src.number) (register s src.number) (readable_passed s.memory.records (value_in a src.number) x e) (c.agrees.values src.number) (c.agrees.tied src.number) (c.agrees.bounded src.number)))

  -- arithmetic on two numbers
  computed_value : (dst : Reg) (x y : Abs) (v w : Value) (n m : ℕ) → v ≡ Number n → w ≡ Number m → AgreesValue s.memory.records x v → AgreesValue s.memory.records y w → Follows subject s c insn begins (meaning.execute_compute insn dst v w s) (table.assignment_effect dst (abstract_result insn x y) a)
  computed_value dst x y v w n m e f h k =
      subst (λ v. Follows subject s c insn begins (meaning.execute_compute insn dst v w s) (table.assignment_effect dst (abstract_result insn x y) a)) (sym e)
      (subst (λ w. Follows subject s c insn begins (meaning.execute_compute insn dst (Number n) w s) (table.assignment_effect dst (abstract_result insn x y) a)) (sym f)
      (gives_sound subject s c insn begins dst (abstract_result insn x y) (Number (value_of insn n m)) on
      (computed_agrees s.memory.records insn x y n m (subst (AgreesValue s.memory.records x) e h) (subst (AgreesValue s.memory.records y) f k)) (computed_tied a.held insn x y) tt))

  pub converted_sound : (dst src : Reg) → IsGiven (meaning.execute_compute insn dst (Number 0) (register s src.number) s) (table.check_convert insn dst src a)
  converted_sound dst src =
      let P = Follows subject s c insn begins (meaning.execute_compute insn dst (Number 0) (register s src.number) s) in
      past P (check_writable dst) _ (λ _ _. past P (check_number rule.PointerArithmetic (value_in a src.number)) _ (λ x e.
      let v = number_value s.memory.records (value_in a src.number) (register s src.number) (number_passed rule.PointerArithmetic (value_in a src.number) x e) (c.agrees.values src.number) in
      computed_value dst (abs.Known 0) (value_in a src.number) (Number 0) (register s src.number) 0 v.0 refl v.1 refl (c.agrees.values src.number)))

  pub altered_sound : (dst : Reg) → IsGiven (meaning.execute_compute insn dst (register s dst.number) (Number 0) s) (table.check_unary insn dst a)
  altered_sound dst =
      let P = Follows subject s c insn begins (meaning.execute_compute insn dst (register s dst.number) (Number 0) s) in
      past P (check_writable dst) _ (λ _ _. past P (check_number rule.PointerArithmetic (value_in a dst.number)) _ (λ x e.
      let v = number_value s.memory.records (value_in a dst.number) (register s dst.number) (number_passed rule.PointerArithmetic (value_in a dst.number) x e) (c.agrees.values dst.number) in
      computed_value dst (value_in a dst.number) (abs.Known 0) (register s dst.number) (Number 0) v.0 0 v.1 refl (c.agrees.values dst.number) refl))

  pub ring_sound : (dst : Reg) (ring : ℕ) → IsGiven (meaning.gives insn dst (Ring ring) s) (table.check_ring_load (limits_of subject) dst ring a)
  ring_sound dst ring =
      let P = Follows subject s c insn begins (meaning.gives insn dst (Ring ring) s) in
      past P (check_writable dst) _ (λ _ _. past P (refused_if (nat_le subject.rings ring) rule.HelperArgument) _ (λ x e.
      let few : nat_le subject.rings ring ≡ false = passed (nat_le subject.rings ring) rule.HelperArgument x e in
      let below : ring < subject.rings = grind (arith, nat_tests) in
      gives_sound subject s c insn begins dst (abs.Ring ring) (Ring ring) on refl tt below))

  -- arithmetic on numbers, for any function that computes it
  pub numbers_sound : (f : Value → Value → StepEffect) (dst : Reg) (x y : Abs) (v w : Value) → ((n m : ℕ) → f (Number n) (Number m) ≡ meaning.execute_compute insn dst (Number n) (Number m) s) → AgreesValue s.memory.records x v → AgreesValue s.memory.records y w
      → IsGiven (f v w) (check_numbers insn x y >>= (λ z. Ok (table.assignment_effect dst z a)))
  numbers_sound f dst x y v w e h k = assigned_number (check_number rule.PointerArithmetic x) (check_number rule.PointerArithmetic y) refl refl
    where
      assigned_number : (p q : Check) → check_number rule.PointerArithmetic x ≡ p → check_number rule.PointerArithmetic y ≡ q → IsGiven (f v w) ((p >>= (λ _. q >>= (λ _. Ok (abstract_result insn x y)))) >>= (λ z. Ok (table.assignment_effect dst z a)))
      assigned_number (Err broken) q ep eq = tt
      assigned_number (Ok i) (Err broken) ep eq = tt
      assigned_number (Ok i) (Ok j) ep eq =
          let n = number_value s.memory.records x v (number_passed rule.PointerArithmetic x i ep) h in
          let m = number_value s.memory.records y w (number_passed rule.PointerArithmetic y j eq) k in
          let same : f v w ≡ meaning.execute_compute insn dst v w s = ap (λ v. f v w) n.1 ∙ ap (λ w. f (Number n.0) w) m.1 ∙ e n.0 m.0 ∙ sym (ap (λ v. meaning.execute_compute insn dst v w s) n.1 ∙ ap (λ w. meaning.execute_compute insn dst (Number n.0) w s) m.1) in
          subst (λ effect. Follows subject s c insn begins effect (table.assignment_effect dst (abstract_result insn x y) a)) (sym same) (computed_value dst x y v w n.0 m.0 n.1 m.1 h k)

  -- the checks on the operands, followed by arithmetic
  pub operands_read : (effect : StepEffect) (dst : Reg) (operand : Operand) (m : Result Abs Rule) → IsGiven effect (m >>= (λ z. Ok (table.assignment_effect dst z a)))
      → IsGiven effect (check_writable dst >>= (λ _. check_readable (value_in a dst.number) >>= (λ _. check_readable (operand_value operand a) >>= (λ _. m >>= (λ z. Ok (table.assignment_effect dst z a))))))
  operands_read effect dst operand m h =
      let P = Follows subject s c insn begins effect in
      past P (check_writable dst) _ (λ _ _. past P (check_readable (value_in a dst.number)) _ (λ _ _. past P (check_readable (operand_value operand a)) _ (λ _ _. h)))

  pub divided_sound : (dst : Reg) (operand : Operand) → IsGiven (meaning.execute_compute insn dst (register s dst.number) (operand_in s operand) s) (table.check_binary None insn dst operand a)
  divided_sound dst operand =
      operands_read (meaning.execute_compute insn dst (register s dst.number) (operand_in s operand) s) dst operand (check_arithmetic None insn (value_in a dst.number) (operand_value operand a))
      (numbers_sound (λ v w. meaning.execute_compute insn dst v w s) dst (value_in a dst.number) (operand_value operand a) (register s dst.number) (operand_in s operand) (λ n m. refl) (c.agrees.values dst.number) (operand_agrees subject s c operand))
