-- The form of every state before a unit, and the law that the abstract step preserves it.
use Rattle.std.specs.Prelude.{◌≡◌, ◌≤◌, ◌+◌, ℕ, length, Ok}
use Rattle.rb_insn.specs.declared.insn.Insn.{Insn}
use Rattle.rb_verifier.specs.declared.limits.Limits.{Limits}
use Rattle.rb_verifier.specs.declared.state.AbsState.{AbsState}
use Rattle.rb_verifier.specs.declared.state.Effect.{Effect}
use Rattle.rb_verifier.specs.References.{IsAscending, AreEarlier}
use Rattle.rb_verifier.specs.VerifierChecks.{abstract_step}

-- eleven values, and at most four references in ascending order of their ids, which are earlier units
pub record IsFormed (unit : ℕ) (s : AbsState) : Type 0 where
  pub count : length s.values ≡ 11
  pub few : length s.held ≤ 4
  pub ascending : IsAscending s.held
  pub earlier : AreEarlier unit s.held

-- along both edges, the effect of an instruction has this form before every later unit
abbrev pub StepKeepsForm : Type 0
StepKeepsForm = (limits : Limits) (unit : ℕ) (insn : Insn) (s : AbsState) (e : Effect) → IsFormed unit s → abstract_step limits unit insn s ≡ Ok e
    → (later : ℕ) → unit + 1 ≤ later → IsFormed later e.next × IsFormed later e.jump
