-- The step of an instruction whose checks hold leads to a state that can step.
use Rattle.std.proofs.Common.{◌≡◌, ℕ, ◌+◌, ◌<◌, ◌≤◌, true, List, Some, length, sym, subst, refl, arith, Result, Ok, Err}
use Rattle.rb_insn.specs.declared.insn.Insn.{Insn}
use Rattle.rb_insn.specs.declared.insn.Operand.{Operand}
use Rattle.rb_insn.specs.declared.insn.Operand.TheVariants.{Immediate, Register}
use Rattle.rb_insn.specs.declared.reg.Reg.{Reg}
use Rattle.rb_insn.specs.Units.{units_taken}
use Rattle.rb_program.specs.Program.{slot_at}
use Rattle.rb_program.proofs.Laws.{is_laid_out}
use Rattle.rb_program.specs.Edges.{Edge, Next, Target, edge_target, falls_through}
use Rattle.rb_program.specs.Shape.{IsInstructionStart}
use Rattle.rb_program.proofs.ShapeLaws.{edges_forward, leads-goes_on}
use Rattle.rb_verifier.specs.declared.rule.Rule.{Rule}
use Rattle.rb_verifier.specs.declared.state.AbsState.{AbsState}
use Rattle.rb_verifier.specs.declared.state.Effect as refs
use Rattle.rb_verifier.specs.declared.value.Abs.{Abs}
use Rattle.rb_verifier.specs.AbstractArithmetic.{operand_value}
use Rattle.rb_verifier.specs.ValueChecks.{◌>>=◌}
use Rattle.rb_verifier.specs.Forms.{IsFormed}
use Rattle.rb_verifier.specs.AbstractStates.{Below}
use Rattle.rb_verifier.specs.VerifierChecks as table
use Rattle.rb_verifier.proofs.Laws.{form_below}
use Rattle.rb_verifier.specs.Annotation.{along_edge}
use Rattle.rb_verifier.specs.Subject.{Subject}
use Rattle.rb_semantics.specs.declared.value.Value.{Value}
use Rattle.rb_semantics.specs.ProgramMemory.{Memory}
use Rattle.rb_semantics.specs.ProgramStates.{State, operand_in, with_register}
use Rattle.rb_semantics.specs.Instructions.{StepEffect, goes_to, goes_by_edge, gives}
use Rattle.rb_semantics.specs.Agreement.{AgreesValue, HasReference, IsBoundedValue, Agrees}
use Rattle.rb_semantics.specs.Soundness.{CanStep}
use Rattle.rb_semantics.proofs.Keeping.{CanStepUnder, StepsForwardUnder, IsSoundUnder}
use Rattle.rb_semantics.proofs.Changes.{agrees_below, agrees_at, agrees_put}

-- a property of the abstract effect, if there is one
abbrev pub Gives : (refs.Effect → Type 0) → Result refs.Effect Rule → Type 0
Gives P (Ok e) = P e
Gives P (Err broken) = Unit {0}

-- continues after a check that passed
pub past : (P : refs.Effect → Type 0) {A : Type 0} (m : Result A Rule) (f : A → Result refs.Effect Rule) → ((x : A) → m ≡ Ok x → Gives P (f x)) → Gives P (m >>= f)
past P (Ok x) f k = k x refl
past P (Err broken) f k = tt

-- the abstract state at the unit of a state that can step
abbrev pub known : (subject : Subject) (s : State) → CanStep subject s → AbsState
known subject s c = c.annotation s.unit

-- the second operand agrees with its abstract value
pub operand_agrees : (subject : Subject) (s : State) (c : CanStep subject s) (operand : Operand) → AgreesValue s.memory.records (operand_value operand (known subject s c)) (operand_in s operand)
operand_agrees subject s c (Immediate k) = refl
operand_agrees subject s c (Register r) = c.agrees.values r.number

module _ (subject : Subject) (s : State) (c : CanStep subject s) (insn : Insn) (begins : slot_at subject.program s.unit ≡ Some insn) where
  -- the abstract states along the instruction's edges are below those of the units that they lead to
  pub record IsEffect (e : refs.Effect) : Type 0 where
    pub forms : (later : ℕ) → s.unit + 1 ≤ later → IsFormed later e.next × IsFormed later e.jump
    pub edges : (edge : Edge) (to : ℕ) → edge_target s.unit insn edge ≡ Some to → Below (along_edge edge e) (c.annotation to)

  -- if the abstract step has this effect, the instruction's effect is sound
  abbrev pub Follows : StepEffect → refs.Effect → Type 0
  Follows effect e = IsEffect e → IsSoundUnder subject c.annotation s effect

  -- the same for the result of the abstract step
  abbrev pub Sound : StepEffect → Result refs.Effect Rule → Type 0
  Sound effect = Gives (Follows effect)

  formed_along : (edge : Edge) (e : refs.Effect) (later : ℕ) → IsEffect e → s.unit + 1 ≤ later → IsFormed later (along_edge edge e)
  formed_along Next e later h le = (h.forms later le).0
  formed_along Target e later h le = (h.forms later le).1

  -- an edge leads forward, to an instruction
  edge_forward : (edge : Edge) (to : ℕ) → edge_target s.unit insn edge ≡ Some to → (s.unit < to) × IsInstructionStart subject.program to
  edge_forward edge to there = edges_forward subject.program (is_laid_out subject.program) c.well_shaped s.unit edge to (record { insn = insn; begins = begins; leads_to = there })

  -- an edge leads to a state that can step
  pub can_go : (edge : Edge) (e : refs.Effect) (to : ℕ) (t : State) → edge_target s.unit insn edge ≡ Some to → IsEffect e → Agrees subject (along_edge edge e) t → t.unit ≡ to → CanStepUnder subject c.annotation t
  can_go edge e to t there h agrees at =
      let forward : (s.unit < to) × IsInstructionStart subject.program to = edge_forward edge to there in
      let below : Below (along_edge edge e) (c.annotation to) = h.edges edge to there in
      record {
        well_shaped = c.well_shaped;
        valid = c.valid;
        begins = subst (IsInstructionStart subject.program) (sym at) forward.1;
        formed = subst (λ unit. IsFormed unit (c.annotation unit)) (sym at) (form_below below (formed_along edge e to h (omega arith)));
        agrees = subst (λ unit. Agrees subject (c.annotation unit) t) (sym at) (agrees_below subject (along_edge edge e) (c.annotation to) t below agrees);
      }

  pub goes_along : (edge : Edge) (e : refs.Effect) (to : ℕ) (registers : List Value) (m : Memory) → edge_target s.unit insn edge ≡ Some to → length m.records ≡ length s.memory.records → Agrees subject (along_edge edge e) (record { unit = s.unit; registers = registers; memory = m }) → IsEffect e
      → IsSoundUnder subject c.annotation s (goes_by_edge edge insn (record { unit = s.unit; registers = registers; memory = m }))
  goes_along edge e to registers m there held agrees h =
      let t : State = record { unit = to; registers = registers; memory = m } in
      let next : CanStepUnder subject c.annotation t = can_go edge e to t there h (agrees_at subject (along_edge edge e) (record { unit = s.unit; registers = registers; memory = m }) to agrees) refl in
      let on : StepsForwardUnder subject c.annotation s t = record { forward = (edge_forward edge to there).0; held = held; next = next } in
      subst (λ there. IsSoundUnder subject c.annotation s (goes_to there (record { unit = s.unit; registers = registers; memory = m }))) (sym there) on

  -- continues with the next instruction
  pub goes_next : (e : refs.Effect) (registers : List Value) (m : Memory) → falls_through insn ≡ true → length m.records ≡ length s.memory.records → Agrees subject e.next (record { unit = s.unit; registers = registers; memory = m }) → IsEffect e
      → IsSoundUnder subject c.annotation s (goes_by_edge Next insn (record { unit = s.unit; registers = registers; memory = m }))
  goes_next e registers m on held agrees h = goes_along Next e (s.unit + units_taken insn) registers m (leads-goes_on s.unit insn on) held agrees h

  -- sets dst to a value that agrees with its abstract value
  pub gives_sound : (dst : Reg) (x : Abs) (v : Value) → falls_through insn ≡ true → AgreesValue s.memory.records x v → HasReference (known subject s c).held x → IsBoundedValue subject.rings v → Follows (gives insn dst v s) (table.assignment_effect dst x (known subject s c))
  gives_sound dst x v on h t b e =
      goes_next (table.assignment_effect dst x (known subject s c)) (with_register dst v s).registers s.memory on refl (agrees_put subject (known subject s c) s dst.number x v h t b c.agrees) e
