-- The search for the units that are reachable.
use Rattle.std.specs.Prelude.{◌≡◌, ◌+◌, ◌*◌, ◌<◌, ◌≤◌, ◌⊎◌, ℕ, Bool, true, false, Option, Some, List, [], ◌∷◌, length, slice_index_or}
use Rattle.std.specs.List.{Contains}
use Rattle.rb_insn.specs.declared.insn.Insn.{Insn}
use Rattle.rb_program.specs.Program.{unit_count}
use Rattle.rb_program.specs.Edges.{Edge, HasEdge, IsReached}

-- a unit is marked
abbrev pub IsMarked : List Bool → ℕ → Type 0
IsMarked marks unit = slice_index_or marks unit false ≡ true

-- how many units are not marked
abbrev pub unmarked : List Bool → ℕ
unmarked [] = 0
unmarked (true ∷ marks) = unmarked marks
unmarked (false ∷ marks) = unmarked marks + 1

-- exactly the reachable units are marked
pub record MarksReached (program : List Insn) (marks : List Bool) : Type 0 where
  pub count : length marks ≡ unit_count program
  pub only : (unit : ℕ) → IsMarked marks unit → IsReached program unit
  pub each : (unit : ℕ) → unit < unit_count program → IsReached program unit → IsMarked marks unit

-- the target, if there is one, is marked, and queued if it was not marked before
pub record Marks (target : Option ℕ) (marks : List Bool) (waiting : List ℕ) (marks' : List Bool) (waiting' : List ℕ) : Type 0 where
  pub count : length marks' ≡ length marks
  pub keeps : (unit : ℕ) → IsMarked marks unit → IsMarked marks' unit
  pub there : (unit : ℕ) → target ≡ Some unit → unit < length marks → IsMarked marks' unit
  pub only : (unit : ℕ) → IsMarked marks' unit → IsMarked marks unit ⊎ (target ≡ Some unit)
  pub fresh : (unit : ℕ) → IsMarked marks' unit → IsMarked marks unit ⊎ Contains waiting' unit
  pub waiting_keeps : (unit : ℕ) → Contains waiting unit → Contains waiting' unit
  pub waiting_only : (unit : ℕ) → Contains waiting' unit → Contains waiting unit ⊎ IsMarked marks' unit
  pub work : length waiting' + 2 * unmarked marks' ≤ length waiting + 2 * unmarked marks

-- the targets of a unit's edges are marked
abbrev pub TargetsMarked : List Insn → List Bool → ℕ → Type 0
TargetsMarked program marks unit = (along : Edge) (to : ℕ) → HasEdge program unit along to → to < unit_count program → IsMarked marks to

-- every marked unit is reachable, and every marked unit that is not queued has the targets of its edges marked
pub record Search (program : List Insn) (marks : List Bool) (waiting : List ℕ) : Type 0 where
  pub count : length marks ≡ unit_count program
  pub start : 0 < unit_count program → IsMarked marks 0
  pub sound : (unit : ℕ) → IsMarked marks unit → IsReached program unit
  pub waiting_marked : (unit : ℕ) → Contains waiting unit → IsMarked marks unit
  pub closed : (unit : ℕ) → IsMarked marks unit → Contains waiting unit ⊎ TargetsMarked program marks unit
