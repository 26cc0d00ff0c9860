-- The pass over a program in unit order: the maximum over the paths that lead to each unit.
use Rattle.std.specs.Prelude.{◌≡◌, ℕ, ◌*◌, ◌<◌, ◌≤◌, ◌⊎◌, ◌^◌, List, ◌∷◌, length, slice_index, count_by, sum_by, Option, Some, IfSome, if◌then◌else◌}
use Rattle.rb_insn.specs.declared.insn.Insn.{Insn}
use Rattle.rb_program.specs.Program.{unit_count, slot_at}
use Rattle.rb_program.specs.Edges.{Edge, HasEdge}
use Rattle.rb_program.specs.Shape.{IsInstructionStart}
use Rattle.rb_verifier.specs.declared.state.AbsState.{AbsState}
use Rattle.rb_verifier.specs.Annotation.{Annotation, state_at}
use Rattle.rb_verifier.specs.Subject.{calls}
use Rattle.rb_cost.specs.declared.requested_record.RequestedRecord.{RequestedRecord}
use Rattle.rb_cost.specs.declared.path_quantity.Quantity.{Quantity}
use Rattle.rb_cost.specs.declared.path_quantity.Quantity.TheVariants.{Steps, Calls, Records, Bytes}
use Rattle.rb_cost.specs.Paths.{IsPath}
use Rattle.rb_cost.specs.Requests.{asked_in, is_on, bytes_on, is_of_ring, held_span}

-- the contribution of a unit of a path
abbrev pub weight_in : Quantity → Option Insn → AbsState → ℕ
weight_in Steps slot s = 1
weight_in Calls slot s = if calls slot then 1 else 0
weight_in (Records ring) slot s = if is_on ring (asked_in slot s) then 1 else 0
weight_in (Bytes ring) slot s = bytes_on ring (asked_in slot s)

abbrev pub weight_at : Quantity → List Insn → Annotation → ℕ → ℕ
weight_at counted program a unit = weight_in counted (slot_at program unit) (a unit)

-- a record has at most 67,108,864 bytes
abbrev pub IsSmall : Option RequestedRecord → Type 0
IsSmall asked = IfSome asked (λ record_asked. record_asked.len ≤ 2 ^ 26)

-- the sum along a path
abbrev pub total : (ℕ → ℕ) → List ℕ → ℕ
total weight path = sum_by weight path

-- the maximum at one unit was raised to a number, if there is such a unit and its maximum was lower
pub record Raises (target : Option ℕ) (n : ℕ) (old new : List ℕ) : Type 0 where
  pub count : length new ≡ length old
  pub kept : (unit : ℕ) → slice_index old unit ≤ slice_index new unit
  pub raised : (unit : ℕ) → target ≡ Some unit → n ≤ slice_index new unit
  pub exact : (unit : ℕ) → (slice_index new unit ≡ slice_index old unit) ⊎ ((target ≡ Some unit) × (slice_index new unit ≡ n))

-- a path to an earlier unit has this sum, and an edge leads on from its last unit
pub record ArrivesWith (program : List Insn) (weight : ℕ → ℕ) (to n : ℕ) : Type 0 where
  pub from : ℕ
  pub along : Edge
  pub path : List ℕ
  pub edge : HasEdge program from along to
  pub is_path : IsPath program (from ∷ path)
  pub comes_to : total weight (from ∷ path) ≡ n

-- some path has this sum
pub record SomePath (program : List Insn) (weight : ℕ → ℕ) (n : ℕ) : Type 0 where
  pub path : List ℕ
  pub is_path : IsPath program path
  pub comes_to : total weight path ≡ n

-- each unit has the maximum over the paths to the units so far with an edge to it, and the maximum over all paths to
-- the units so far is known
pub record Progress (program : List Insn) (weight : ℕ → ℕ) (before : List ℕ) (most unit : ℕ) : Type 0 where
  pub count : length before ≡ unit_count program
  pub above : (from to : ℕ) (along : Edge) (path : List ℕ) → from < unit → HasEdge program from along to → IsPath program (from ∷ path) → total weight (from ∷ path) ≤ slice_index before to
  pub arrived : (to : ℕ) → (slice_index before to ≡ 0) ⊎ ArrivesWith program weight to (slice_index before to)
  pub bounded : (to : ℕ) → slice_index before to ≤ to * 2 ^ 27
  pub passed : (last : ℕ) (path : List ℕ) → last < unit → IsPath program (last ∷ path) → total weight (last ∷ path) ≤ most
  pub found : (most ≡ 0) ⊎ SomePath program weight most

-- the number is the maximum over the units so far at which instructions begin
pub record IsMostBefore (program : List Insn) (f : ℕ → ℕ) (most unit : ℕ) : Type 0 where
  pub passed : (other : ℕ) → other < unit → IsInstructionStart program other → f other ≤ most
  pub found : (most ≡ 0) ⊎ ((other : ℕ) × IsInstructionStart program other × (f other ≡ most))

-- the number of records of a ring that are held before the instruction at a unit, and the number of bytes that they
-- occupy
abbrev pub records_held : List AbsState → ℕ → ℕ → ℕ
records_held states ring unit = count_by (is_of_ring ring) (state_at states unit).held

abbrev pub bytes_held : List AbsState → ℕ → ℕ → ℕ
bytes_held states ring unit = sum_by (held_span ring) (state_at states unit).held
