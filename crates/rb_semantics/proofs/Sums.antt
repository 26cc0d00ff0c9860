-- Sums and differences are sound, including those that move pointers.
use Rattle.std.proofs.Common.{◌≡◌, ℕ, ℤ, true, Some, None, sym, ap, subst, ◌∙◌, refl, Result, Ok}
use Rattle.rb_insn.specs.declared.insn.Insn.{Insn}
use Rattle.rb_insn.specs.declared.insn.BinaryOp.{BinaryOp}
use Rattle.rb_insn.specs.declared.insn.BinaryOp.TheVariants.{Add, Sub}
use Rattle.rb_insn.specs.declared.insn.Operand.{Operand}
use Rattle.rb_insn.specs.declared.insn.Width.{Width}
use Rattle.rb_insn.specs.declared.insn.Width.TheVariants.{W64}
use Rattle.rb_insn.specs.declared.reg.Reg.{Reg}
use Rattle.rb_program.specs.Program.{slot_at}
use Rattle.rb_program.specs.Edges.{falls_through}
use Rattle.rb_verifier.specs.declared.rule.Rule.{Rule}
use Rattle.rb_verifier.specs.declared.state.Effect as refs
use Rattle.rb_verifier.specs.declared.value.Abs.{Abs}
use Rattle.rb_verifier.specs.declared.value.Abs.TheVariants as abs
use Rattle.rb_verifier.specs.declared.state.AbsState.{AbsState}
use Rattle.rb_verifier.specs.AbstractArithmetic.{operand_value, direction_of, check_arithmetic, moved_offset, check_near, is_near}
use Rattle.rb_verifier.specs.ValueChecks.{◌>>=◌}
use Rattle.rb_verifier.specs.AbstractStates.{value_in}
use Rattle.rb_verifier.specs.VerifierChecks as table
use Rattle.rb_verifier.proofs.Laws.{BothHold, both_hold}
use Rattle.rb_verifier.specs.Subject.{Subject}
use Rattle.rb_semantics.specs.declared.value.MemoryRegion.{MemoryRegion}
use Rattle.rb_semantics.specs.declared.value.MemoryRegion.TheVariants.{Stack, Context, Record}
use Rattle.rb_semantics.specs.declared.value.Value.{Value}
use Rattle.rb_semantics.specs.declared.value.Value.TheVariants.{Number, Pointer}
use Rattle.rb_semantics.specs.ProgramStates.{State, register, operand_in}
use Rattle.rb_semantics.specs.Instructions.{StepEffect}
use Rattle.rb_semantics.specs.Instructions as meaning
use Rattle.rb_semantics.specs.Agreement.{AgreesValue, HasReference}
use Rattle.rb_semantics.specs.Soundness.{CanStep}
use Rattle.rb_semantics.proofs.Checks.{near_passed}
use Rattle.rb_semantics.proofs.Rows.{past, known, operand_agrees, Follows, gives_sound}
use Rattle.rb_semantics.proofs.Moves.{IsGiven, numbers_sound, operands_read}

module _ (subject : Subject) (s : State) (c : CanStep subject s) (insn : Insn) (begins : slot_at subject.program s.unit ≡ Some insn) (on : falls_through insn ≡ true) where
  abbrev a : AbsState
  a = known subject s c

  abbrev Given : StepEffect → Result refs.Effect Rule → Type 0
  Given = IsGiven subject s c insn begins on

  -- a pointer that is moved to an offset within the bounds
  moved_sound : (dst : Reg) (place : MemoryRegion) (point : ℤ → Abs) (z : ℤ) (effect : StepEffect) → ((to : ℤ) → AgreesValue s.memory.records (point to) (Pointer place to)) → ((to : ℤ) → HasReference a.held (point to)) → effect ≡ meaning.gives insn dst (Pointer place z) s
      → Given effect ((check_near z >>= (λ to. Ok (point to))) >>= (λ v. Ok (table.assignment_effect dst v a)))
  moved_sound dst place point z effect h t e =
      past (Follows subject s c insn begins effect) (check_near z >>= (λ to. Ok (point to))) _ (λ v k.
      let both : BothHold (check_near z) (λ to. Ok (point to)) v = both_hold (check_near z) (λ to. Ok (point to)) v k in
      let n : (z ≡ both.value) × (is_near z ≡ true) = near_passed z both.value both.first in
      let same : point z ≡ v = (let f : Ok (point both.value) ≡ Ok v = both.others in ap point n.0 ∙ cc) in
      subst (λ v. Follows subject s c insn begins effect (table.assignment_effect dst v a)) same
      (subst (λ effect. Follows subject s c insn begins effect (table.assignment_effect dst (point z) a)) (sym e)
      (gives_sound subject s c insn begins dst (point z) (Pointer place z) on (h z) (t z) n.1)))

  -- a function of two values that moves a pointer by a number, or computes on two numbers
  module _ (f : Value → Value → StepEffect) (dst : Reg) (numbers : (n m : ℕ) → f (Number n) (Number m) ≡ meaning.execute_compute insn dst (Number n) (Number m) s) where
    sums_sound : (op : BinaryOp) (d : _) → direction_of W64 op ≡ Some d → ((place : MemoryRegion) (o : ℤ) (n : ℕ) → f (Pointer place o) (Number n) ≡ meaning.gives insn dst (Pointer place (moved_offset d o n)) s) → (x y : Abs) (v w : Value) → AgreesValue s.memory.records x v → HasReference a.held x → AgreesValue s.memory.records y w
        → Given (f v w) (check_arithmetic (Some d) insn x y >>= (λ z. Ok (table.assignment_effect dst z a)))
    sums_sound op d is pointers (abs.Ctx o) (abs.Known n) v w h t k = moved_sound dst Context abs.Ctx (moved_offset d o n) (f v w) (λ to. refl) (λ to. tt) (ap (λ v. f v w) h ∙ ap (λ w. f (Pointer Context o) w) k ∙ pointers Context o n)
    sums_sound op d is pointers (abs.Stack o) (abs.Known n) v w h t k = moved_sound dst Stack abs.Stack (moved_offset d o n) (f v w) (λ to. refl) (λ to. tt) (ap (λ v. f v w) h ∙ ap (λ w. f (Pointer Stack o) w) k ∙ pointers Stack o n)
    sums_sound op d is pointers (abs.Record i o) (abs.Known n) v w h t k =
        moved_sound dst (Record i) (abs.Record i) (moved_offset d o n) (f v w) (λ to. refl) (λ to. t) (ap (λ v. f v w) h ∙ ap (λ w. f (Pointer (Record i) o) w) k ∙ pointers (Record i) o n)
    sums_sound op d is pointers abs.Unreadable y v w h t k = tt
    sums_sound op d is pointers abs.Number y v w h t k = numbers_sound subject s c insn begins on f dst abs.Number y v w numbers h k
    sums_sound op d is pointers (abs.Known i) y v w h t k = numbers_sound subject s c insn begins on f dst (abs.Known i) y v w numbers h k
    sums_sound op d is pointers (abs.Ring i) y v w h t k = tt
    sums_sound op d is pointers (abs.Perhaps i) y v w h t k = tt
    sums_sound op d is pointers (abs.Ctx o) y v w h t k = tt
    sums_sound op d is pointers (abs.Stack o) y v w h t k = tt
    sums_sound op d is pointers (abs.Record i o) y v w h t k = tt

  pub binary_sound : (width : Width) (op : BinaryOp) (dst : Reg) (operand : Operand) → Given (meaning.execute_arithmetic width op insn dst (register s dst.number) (operand_in s operand) s) (table.check_binary (direction_of width op) insn dst operand a)
  binary_sound W64 Add dst operand =
      operands_read subject s c insn begins on _ dst operand _
      (sums_sound (λ v w. meaning.execute_arithmetic W64 Add insn dst v w s) dst (λ n m. refl) Add _ refl (λ place o n. refl) (value_in a dst.number) (operand_value operand a) (register s dst.number) (operand_in s operand) (c.agrees.values dst.number) (c.agrees.tied dst.number) (operand_agrees subject s c operand))
  binary_sound W64 Sub dst operand =
      operands_read subject s c insn begins on _ dst operand _
      (sums_sound (λ v w. meaning.execute_arithmetic W64 Sub insn dst v w s) dst (λ n m. refl) Sub _ refl (λ place o n. refl) (value_in a dst.number) (operand_value operand a) (register s dst.number) (operand_in s operand) (c.agrees.values dst.number) (c.agrees.tied dst.number) (operand_agrees subject s c operand))
  binary_sound width op dst operand =
      operands_read subject s c insn begins on _ dst operand (check_arithmetic None insn (value_in a dst.number) (operand_value operand a))
      (numbers_sound subject s c insn begins on (λ v w. meaning.execute_arithmetic width op insn dst v w s) dst (value_in a dst.number) (operand_value operand a) (register s dst.number) (operand_in s operand) (λ n m. refl) (c.agrees.values dst.number) (operand_agrees subject s c operand))
