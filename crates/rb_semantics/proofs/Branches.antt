-- Jumps are sound.
use Rattle.std.proofs.Common.{◌≡◌, ℕ, ℤ, pos, true, false, List, Option, Some, None, find, sym, ap, subst, ◌∙◌, refl, Result, Ok}
use Rattle.rb_insn.specs.declared.insn.Condition.{Condition}
use Rattle.rb_insn.specs.declared.insn.Condition.TheVariants.{Equal, NotEqual}
use Rattle.rb_insn.specs.declared.insn.Insn.{Insn}
use Rattle.rb_insn.specs.declared.insn.Insn.TheVariants.{Branch}
use Rattle.rb_insn.specs.declared.insn.Operand.{Operand}
use Rattle.rb_insn.specs.declared.insn.Operand.TheVariants.{Immediate}
use Rattle.rb_insn.specs.declared.insn.Width.{Width}
use Rattle.rb_insn.specs.declared.insn.Width.TheVariants.{W64}
use Rattle.rb_insn.specs.declared.reg.Reg.{Reg}
use Rattle.rb_insn.specs.ArithmeticAndJumps.{jumps_of}
use Rattle.rb_insn.specs.WholeNumbers.{wrapped, condition_holds}
use Rattle.rb_program.specs.Program.{slot_at}
use Rattle.rb_program.specs.Edges.{Edge, Next, Target, falls_through, distance_of}
use Rattle.rb_program.proofs.ShapeLaws.{jumps_land}
use Rattle.rb_verifier.specs.declared.rule.Rule.{Rule}
use Rattle.rb_verifier.specs.declared.rule.Rule.TheVariants as rule
use Rattle.rb_verifier.specs.declared.state.AbsState.{AbsState}
use Rattle.rb_verifier.specs.declared.state.Effect as refs
use Rattle.rb_verifier.specs.declared.value.Abs.{Abs}
use Rattle.rb_verifier.specs.declared.value.Abs.TheVariants as abs
use Rattle.rb_verifier.specs.AbstractArithmetic.{operand_value}
use Rattle.rb_verifier.specs.Branches.{null_test_of, check_branch}
use Rattle.rb_verifier.specs.ReferenceChanges.{null_state, there_state}
use Rattle.rb_verifier.specs.ValueChecks.{◌>>=◌, check_readable, check_number}
use Rattle.rb_verifier.specs.References.{has_id}
use Rattle.rb_verifier.specs.AbstractStates.{value_in, effect_on_both}
use Rattle.rb_verifier.specs.Annotation.{along_edge}
use Rattle.rb_verifier.specs.Subject.{Subject}
use Rattle.rb_semantics.specs.declared.value.Value.{Value}
use Rattle.rb_semantics.specs.declared.value.Value.TheVariants.{Number}
use Rattle.rb_semantics.specs.ProgramMemory.{record_named}
use Rattle.rb_semantics.specs.ProgramStates.{State, register, operand_in}
use Rattle.rb_semantics.specs.Instructions.{StepEffect, goes_by_edge, edge_taken, execute_compare, null_test}
use Rattle.rb_semantics.specs.Agreement.{reserved_value, AgreesValue, IsTested, HasReference, Agrees}
use Rattle.rb_semantics.specs.Soundness.{CanStep}
use Rattle.rb_semantics.proofs.Values.{number_value}
use Rattle.rb_semantics.proofs.Changes.{agrees_null, agrees_there}
use Rattle.rb_semantics.proofs.Checks.{number_passed}
use Rattle.rb_semantics.proofs.Rows.{past, known, operand_agrees, Follows, Sound, goes_along, goes_next}

module _ (subject : Subject) (s : State) (c : CanStep subject s) (insn : Insn) (begins : slot_at subject.program s.unit ≡ Some insn) (distance : ℤ) (jumps : distance_of insn ≡ Some distance) where
  abbrev a : AbsState
  a = known subject s c

  abbrev Given : StepEffect → Result refs.Effect Rule → Type 0
  Given = Sound subject s c insn begins

  -- the jump's edge
  pub jumps_to : (e : refs.Effect) → Agrees subject e.jump s → Follows subject s c insn begins (goes_by_edge Target insn s) e
  jumps_to e agrees h =
      let to = jumps_land subject.program c.well_shaped s.unit insn distance begins jumps in
      goes_along subject s c insn begins Target e to.0 s.registers s.memory to.1 refl agrees h

  module _ (on : falls_through insn ≡ true) where
    -- either edge
    either : (edge : Edge) (e : refs.Effect) → Agrees subject (along_edge edge e) s → Follows subject s c insn begins (goes_by_edge edge insn s) e
    either Next e agrees h = goes_next subject s c insn begins e s.registers s.memory on refl agrees h
    either Target e agrees h = jumps_to e agrees h

    same_along : (edge : Edge) → Agrees subject (along_edge edge (effect_on_both a)) s
    same_along Next = c.agrees
    same_along Target = c.agrees

    -- a comparison of two numbers
    numbers_compared : (test : Option Edge) (x y : Abs) (v w : Value) → ((n m : ℕ) → execute_compare insn test (Number n) (Number m) s ≡ goes_by_edge (edge_taken (jumps_of insn n m)) insn s) → AgreesValue s.memory.records x v → AgreesValue s.memory.records y w
        → Given (execute_compare insn test v w s) (check_readable x >>= (λ _. check_readable y >>= (λ _. check_number rule.PointerCompared x >>= (λ _. check_number rule.PointerCompared y >>= (λ _. Ok (effect_on_both a))))))
    numbers_compared test x y v w plain h k =
        let P = Follows subject s c insn begins (execute_compare insn test v w s) in
        past P (check_readable x) _ (λ _ _. past P (check_readable y) _ (λ _ _. past P (check_number rule.PointerCompared x) _ (λ i e. past P (check_number rule.PointerCompared y) _ (λ j f.
        let n = number_value s.memory.records x v (number_passed rule.PointerCompared x i e) h in
        let m = number_value s.memory.records y w (number_passed rule.PointerCompared y j f) k in
        let same : execute_compare insn test v w s ≡ goes_by_edge (edge_taken (jumps_of insn n.0 m.0)) insn s = ap (λ v. execute_compare insn test v w s) n.1 ∙ ap (λ w. execute_compare insn test (Number n.0) w s) m.1 ∙ plain n.0 m.0 in
        subst (λ effect. Follows subject s c insn begins effect (effect_on_both a)) (sym same) (either (edge_taken (jumps_of insn n.0 m.0)) (effect_on_both a) (same_along (edge_taken (jumps_of insn n.0 m.0))))))))

    -- a null test of a reservation
    perhaps_compared : (edge other : Edge) (id m : ℕ) (v : Value) (e : refs.Effect) (o : Option (List ℕ)) → record_named id s.memory.records ≡ o → v ≡ reserved_value id o → edge_taken (jumps_of insn 0 m) ≡ other
        → (o ≡ None → Agrees subject (along_edge other e) s) → ((b : List ℕ) → o ≡ Some b → Agrees subject (along_edge edge e) s) → Follows subject s c insn begins (execute_compare insn (Some edge) v (Number m) s) e
    perhaps_compared edge other id m v e None f h taken null there =
        subst (λ v. Follows subject s c insn begins (execute_compare insn (Some edge) v (Number m) s) e) (sym h)
        (subst (λ edge. Follows subject s c insn begins (goes_by_edge edge insn s) e) (sym taken) (either other e (null refl)))
    perhaps_compared edge other id m v e (Some b) f h taken null there =
        subst (λ v. Follows subject s c insn begins (execute_compare insn (Some edge) v (Number m) s) e) (sym h) (either edge e (there b refl))

    null_agrees : (id : ℕ) → IsTested false (find (has_id id) a.held) → record_named id s.memory.records ≡ None → Agrees subject (null_state id a) s
    null_agrees id t none = agrees_null subject a s id none t c.agrees

    there_agrees : (id : ℕ) (b : List ℕ) → record_named id s.memory.records ≡ Some b → Agrees subject (there_state id a) s
    there_agrees id b there = agrees_there subject a s id b there c.formed.ascending c.agrees

    -- JEQ and JNE against 0
    pub equal_sound : (x y : Abs) (v : Value) (m : ℕ) → jumps_of insn 0 m ≡ true → AgreesValue s.memory.records x v → HasReference a.held x → AgreesValue s.memory.records y (Number m)
        → Given (execute_compare insn (Some Next) v (Number m) s) (check_branch (null_test_of W64 Equal (Immediate (pos ℕ.zero))) x y a)
    equal_sound (abs.Perhaps id) y v m is h t k =
        perhaps_compared Next Target id m v (record { next = there_state id a; jump = null_state id a }) (record_named id s.memory.records) refl h (ap edge_taken is) (null_agrees id t) (there_agrees id)
    equal_sound x y v m is h t k = numbers_compared (Some Next) x y v (Number m) (λ n m. refl) h k

    pub not_equal_sound : (x y : Abs) (v : Value) (m : ℕ) → jumps_of insn 0 m ≡ false → AgreesValue s.memory.records x v → HasReference a.held x → AgreesValue s.memory.records y (Number m)
        → Given (execute_compare insn (Some Target) v (Number m) s) (check_branch (null_test_of W64 NotEqual (Immediate (pos ℕ.zero))) x y a)
    not_equal_sound (abs.Perhaps id) y v m is h t k =
        perhaps_compared Target Next id m v (record { next = null_state id a; jump = there_state id a }) (record_named id s.memory.records) refl h (ap edge_taken is) (null_agrees id t) (there_agrees id)
    not_equal_sound x y v m is h t k = numbers_compared (Some Target) x y v (Number m) (λ n m. refl) h k

    pub plain_sound : (x y : Abs) (v w : Value) → AgreesValue s.memory.records x v → AgreesValue s.memory.records y w → Given (execute_compare insn None v w s) (check_branch None x y a)
    plain_sound x y v w h k = numbers_compared None x y v w (λ n m. refl) h k

equal_zero : (dst : Reg) (distance : ℤ) → jumps_of (Branch W64 Equal dst (Immediate (pos ℕ.zero)) distance) 0 (wrapped 64 (pos ℕ.zero)) ≡ true
unfolding jumps_of condition_holds wrapped
equal_zero dst distance = refl

not_equal_zero : (dst : Reg) (distance : ℤ) → jumps_of (Branch W64 NotEqual dst (Immediate (pos ℕ.zero)) distance) 0 (wrapped 64 (pos ℕ.zero)) ≡ false
unfolding jumps_of condition_holds wrapped
not_equal_zero dst distance = refl

-- a conditional jump
pub branch_sound : (subject : Subject) (s : State) (c : CanStep subject s) (width : Width) (condition : Condition) (dst : Reg) (operand : Operand) (distance : ℤ) (begins : slot_at subject.program s.unit ≡ Some (Branch width condition dst operand distance))
    → Sound subject s c (Branch width condition dst operand distance) begins (execute_compare (Branch width condition dst operand distance) (null_test width condition operand) (register s dst.number) (operand_in s operand) s)
    (check_branch (null_test_of width condition operand) (value_in (known subject s c) dst.number) (operand_value operand (known subject s c)) (known subject s c))
branch_sound subject s c W64 Equal dst (Immediate (pos ℕ.zero)) distance begins =
    equal_sound subject s c (Branch W64 Equal dst (Immediate (pos ℕ.zero)) distance) begins distance refl refl (value_in (known subject s c) dst.number) _ (register s dst.number) (wrapped 64 (pos ℕ.zero)) (equal_zero dst distance) (c.agrees.values dst.number) (c.agrees.tied dst.number) refl
branch_sound subject s c W64 NotEqual dst (Immediate (pos ℕ.zero)) distance begins =
    not_equal_sound subject s c (Branch W64 NotEqual dst (Immediate (pos ℕ.zero)) distance) begins distance refl refl (value_in (known subject s c) dst.number) _ (register s dst.number) (wrapped 64 (pos ℕ.zero)) (not_equal_zero dst distance) (c.agrees.values dst.number) (c.agrees.tied dst.number) refl
branch_sound subject s c width condition dst operand distance begins =
    plain_sound subject s c (Branch width condition dst operand distance) begins distance refl refl (value_in (known subject s c) dst.number) (operand_value operand (known subject s c)) (register s dst.number) (operand_in s operand) (c.agrees.values dst.number) (operand_agrees subject s c operand)
