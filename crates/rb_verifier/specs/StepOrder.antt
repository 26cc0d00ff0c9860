-- The law that the abstract step is monotone.
use Rattle.std.specs.Prelude.{ℕ, Result, Ok, Err}
use Rattle.rb_insn.specs.declared.insn.Insn.{Insn}
use Rattle.rb_verifier.specs.declared.limits.Limits.{Limits}
use Rattle.rb_verifier.specs.declared.rule.Rule.{Rule}
use Rattle.rb_verifier.specs.declared.state.AbsState.{AbsState}
use Rattle.rb_verifier.specs.AbstractStates.{Below, EffectBelow}
use Rattle.rb_verifier.specs.VerifierChecks.{abstract_step}

-- the order of results: a refusal is above everything
abbrev pub ResultBelow : {A : Type 0} → (A → A → Type 0) → Result A Rule → Result A Rule → Type 0
ResultBelow R answer (Err broken) = Unit {0}
ResultBelow R (Ok x) (Ok y) = R x y
ResultBelow R (Err broken) (Ok y) = ⊥

-- checks that hold in a state hold in every state below it, and the effects are ordered likewise
abbrev pub StepKeepsOrder : Type 0
StepKeepsOrder = (limits : Limits) (unit : ℕ) (insn : Insn) (s t : AbsState) → Below s t → ResultBelow EffectBelow (abstract_step limits unit insn s) (abstract_step limits unit insn t)
