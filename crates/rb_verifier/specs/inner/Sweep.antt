-- The invariant of the verifier's pass over a program in unit order: what has arrived at each unit so far.
use Rattle.std.specs.Prelude.{◌≡◌, ◌≢◌, ℕ, ◌<◌, ◌≤◌, Option, Some, List, length, slice_index_or}
use Rattle.rb_insn.specs.declared.insn.Insn.{Insn}
use Rattle.rb_program.specs.Program.{unit_count}
use Rattle.rb_verifier.specs.declared.limits.Limits.{Limits}
use Rattle.rb_verifier.specs.declared.state.AbsState.{AbsState}
use Rattle.rb_verifier.specs.Forms.{IsFormed}
use Rattle.rb_verifier.specs.Joins.{IsJoin}
use Rattle.rb_verifier.specs.AbstractStates.{entry_state}
use Rattle.rb_verifier.specs.declared.arrivals.Arrival.{Arrival}
use Rattle.rb_verifier.specs.declared.arrivals.Arrival.TheVariants.{Nothing, Least, Differ}
use Rattle.rb_verifier.specs.Annotation.{state_at, Arrives, IsLeastBefore, IsLeastAbove, HaveDifferent}

-- what has arrived at a unit
abbrev pub noted_at : List Arrival → ℕ → Arrival
noted_at arrivals unit = slice_index_or arrivals unit Nothing

-- the least state above all states of a set that is not empty
pub record IsLeastOfSome (A : AbsState → Type 0) (s : AbsState) : Type 0 where
  pub least : IsLeastAbove A s
  pub one : AbsState
  pub one_is : A one

-- the arrival is the merge of the states of a set
abbrev pub IsArrivalOf : (AbsState → Type 0) → Arrival → Type 0
IsArrivalOf A Nothing = (s : AbsState) → A s → ⊥
IsArrivalOf A (Least s) = IsLeastOfSome A s
IsArrivalOf A Differ = HaveDifferent A

-- the join of the states that arrived has the form of a state before the unit
abbrev pub IsFormedAt : ℕ → Arrival → Type 0
IsFormedAt unit (Least s) = IsFormed unit s
IsFormedAt unit _ = Unit {0}

-- one more state arrives
abbrev pub IsMerged : Arrival → AbsState → Arrival → Type 0
IsMerged Nothing s new = new ≡ Least s
IsMerged (Least t) s Nothing = ⊥
IsMerged (Least t) s (Least r) = IsJoin t s r
IsMerged (Least t) s Differ = t.held ≢ s.held
IsMerged Differ s new = new ≡ Differ

-- the arrivals differ at this unit only
pub record TakesArrival (unit : ℕ) (old new : List Arrival) : Type 0 where
  pub count : length new ≡ length old
  pub elsewhere : (other : ℕ) → other ≢ unit → noted_at new other ≡ noted_at old other

-- a state arrives at the target, if there is one
pub record Flows (target : Option ℕ) (s : AbsState) (old new : List Arrival) : Type 0 where
  pub count : length new ≡ length old
  pub there : (unit : ℕ) → target ≡ Some unit → IsMerged (noted_at old unit) s (noted_at new unit)
  pub elsewhere : (unit : ℕ) → target ≢ Some unit → noted_at new unit ≡ noted_at old unit

-- the states so far are the least annotation of the units below `unit`, and `arrivals` has what arrives from them at
-- the units from `unit` on
pub record Progress (limits : Limits) (program : List Insn) (states : List AbsState) (arrivals : List Arrival) (unit : ℕ) : Type 0 where
  pub done : length states ≡ unit
  pub count : length arrivals ≡ unit_count program
  pub least : IsLeastBefore limits program (state_at states) unit
  pub noted : (to : ℕ) → unit ≤ to → to < unit_count program → IsArrivalOf (Arrives limits program (state_at states) unit to) (noted_at arrivals to)
  pub formed : (to : ℕ) → unit ≤ to → IsFormedAt to (noted_at arrivals to)

-- initially, the entry state has arrived at the first unit, and nothing elsewhere
pub record AreFirstArrivals (units : ℕ) (arrivals : List Arrival) : Type 0 where
  pub count : length arrivals ≡ units
  pub first : 0 < units → noted_at arrivals 0 ≡ Least entry_state
  pub others : (unit : ℕ) → 0 < unit → noted_at arrivals unit ≡ Nothing
