-- Annotations of a program, when they are valid, and the first fault of a program that has none (own profile).
use Rattle.std.specs.Prelude.{◌≡◌, ◌≢◌, ℕ, ◌<◌, List, slice_index_or, Some, Ok, Err}
use Rattle.rb_insn.specs.declared.insn.Insn.{Insn}
use Rattle.rb_program.specs.Program.{unit_count, slot_at}
use Rattle.rb_program.specs.Edges.{Edge, Next, Target, edge_target}
use Rattle.rb_verifier.specs.declared.limits.Limits.{Limits}
use Rattle.rb_verifier.specs.declared.rule.Rule.{Rule}
use Rattle.rb_verifier.specs.declared.rule.Rule.TheVariants.{ReferencesDiffer}
use Rattle.rb_verifier.specs.declared.state.AbsState.{AbsState}
use Rattle.rb_verifier.specs.declared.state.Effect.{Effect}
use Rattle.rb_verifier.specs.AbstractStates.{Below, entry_state}
use Rattle.rb_verifier.specs.VerifierChecks.{abstract_step}

-- a state for each unit; the state at a unit where no instruction begins has no meaning
abbrev pub Annotation : Type 0
Annotation = ℕ → AbsState

-- the annotation that a list of states represents
abbrev pub state_at : List AbsState → Annotation
state_at states unit = slice_index_or states unit entry_state

-- the state along an edge
abbrev pub along_edge : Edge → Effect → AbsState
along_edge Next e = e.next
along_edge Target e = e.jump

-- the checks of the instruction at a unit hold, and along each edge to a unit below the bound, the effect is below that
-- unit's state
pub record HoldsAt (limits : Limits) (a : Annotation) (bound unit : ℕ) (insn : Insn) : Type 0 where
  pub effect : Effect
  pub checks : abstract_step limits unit insn (a unit) ≡ Ok effect
  pub edges : (along : Edge) (to : ℕ) → edge_target unit insn along ≡ Some to → to < bound → Below (along_edge along effect) (a to)

-- the annotation is valid at the units below the bound
pub record IsValidBefore (limits : Limits) (program : List Insn) (a : Annotation) (bound : ℕ) : Type 0 where
  pub entry : 0 < bound → Below entry_state (a 0)
  pub each : (unit : ℕ) (insn : Insn) → unit < bound → slot_at program unit ≡ Some insn → HoldsAt limits a bound unit insn

-- the annotation is valid at each unit
abbrev pub IsValid : Limits → List Insn → Annotation → Type 0
IsValid limits program a = IsValidBefore limits program a (unit_count program)

-- the annotation is valid below the bound, and below every other annotation that is
pub record IsLeastBefore (limits : Limits) (program : List Insn) (a : Annotation) (bound : ℕ) : Type 0 where
  pub valid : IsValidBefore limits program a bound
  pub least : (b : Annotation) → IsValidBefore limits program b bound → (unit : ℕ) (insn : Insn) → unit < bound → slot_at program unit ≡ Some insn → Below (a unit) (b unit)

-- the annotation is valid, and below every other valid annotation
abbrev pub IsLeast : Limits → List Insn → Annotation → Type 0
IsLeast limits program a = IsLeastBefore limits program a (unit_count program)

-- a state arrives at a unit from the units below the bound: the entry state at the first unit, and the state along each
-- edge that leads there
pub data Arrives (limits : Limits) (program : List Insn) (a : Annotation) (bound to : ℕ) (s : AbsState) : Type 0 where
  at_entry : to ≡ 0 → s ≡ entry_state → Arrives limits program a bound to s
  by_edge : (from : ℕ) (insn : Insn) (e : Effect) (along : Edge) → from < bound → slot_at program from ≡ Some insn → abstract_step limits from insn (a from) ≡ Ok e → edge_target from insn along ≡ Some to → s ≡ along_edge along e → Arrives limits program a bound to s

-- the least state above all states of a set
pub record IsLeastAbove (A : AbsState → Type 0) (s : AbsState) : Type 0 where
  pub above : (x : AbsState) → A x → Below x s
  pub least : (t : AbsState) → ((x : AbsState) → A x → Below x t) → Below s t

-- a set contains two states with different references
pub record HaveDifferent (A : AbsState → Type 0) : Type 0 where
  pub one : AbsState
  pub other : AbsState
  pub one_is : A one
  pub other_is : A other
  pub differ : one.held ≢ other.held

-- a rule that is broken at a unit, given an annotation of the units below: states with different references arrive, or
-- the first failing check at the least state above all that arrive
pub data BreaksRuleAt (limits : Limits) (program : List Insn) (a : Annotation) (unit : ℕ) (rule : Rule) : Type 0 where
  differ : rule ≡ ReferencesDiffer → HaveDifferent (Arrives limits program a unit unit) → BreaksRuleAt limits program a unit rule
  check : (insn : Insn) (s : AbsState) → slot_at program unit ≡ Some insn → IsLeastAbove (Arrives limits program a unit unit) s → abstract_step limits unit insn s ≡ Err rule → BreaksRuleAt limits program a unit rule

-- the rule is the first one that is broken at the unit, given the least annotation of the units below
pub record IsFirstBrokenRule (limits : Limits) (program : List Insn) (unit : ℕ) (rule : Rule) : Type 0 where
  pub inside : unit < unit_count program
  pub annotation : Annotation
  pub least : IsLeastBefore limits program annotation unit
  pub stands : BreaksRuleAt limits program annotation unit rule

abbrev pub HasValid : Limits → List Insn → Type 0
HasValid limits program = (a : Annotation) × IsValid limits program a

abbrev pub HasNoValid : Limits → List Insn → Type 0
HasNoValid limits program = (a : Annotation) → IsValid limits program a → ⊥
