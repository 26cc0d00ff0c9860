-- The faults in the shape of a program. The profile allows no backward jump and no unreachable instruction (own).
use Rattle.std.specs.Prelude.{◌≡◌, ℕ, ◌<◌, ◌≤◌, ℤ, pos, ◌<ℤ◌, List, Some, None}
use Rattle.rb_insn.specs.declared.insn.Insn.{Insn}
use Rattle.rb_program.specs.Program.{unit_count, slot_at}
use Rattle.rb_program.specs.declared.shape_fault.ShapeFault.{ShapeFault}
use Rattle.rb_program.specs.declared.shape_fault.ShapeFaultKind.{ShapeFaultKind}
use Rattle.rb_program.specs.declared.shape_fault.ShapeFaultKind.TheVariants.{Backward, OutOfProgram, IntoWide, FallsOff, Unreachable, Memory}
use Rattle.rb_program.specs.Edges.{Next, Target, distance_of, HasEdge, IsReached}

-- the instruction jumps by a negative distance
abbrev pub JumpsBack : Insn → Type 0
JumpsBack insn = (distance : ℤ) × (distance_of insn ≡ Some distance) × (distance <ℤ pos 0)

-- the instruction at a unit has a fault of this kind; a failed allocation is not a fault of a unit
abbrev pub HasShapeFault : List Insn → ℕ → ShapeFaultKind → Type 0
HasShapeFault program unit Backward = (insn : Insn) × (slot_at program unit ≡ Some insn) × JumpsBack insn
HasShapeFault program unit OutOfProgram = (to : ℕ) × HasEdge program unit Target to × (unit_count program ≤ to)
HasShapeFault program unit IntoWide = (to : ℕ) × HasEdge program unit Target to × (to < unit_count program) × (slot_at program to ≡ None)
HasShapeFault program unit FallsOff = (to : ℕ) × HasEdge program unit Next to × (unit_count program ≤ to)
HasShapeFault program unit Unreachable = (insn : Insn) × (slot_at program unit ≡ Some insn) × (IsReached program unit → ⊥)
HasShapeFault program unit Memory = ⊥

-- the precedence of the kinds at one unit
abbrev pub fault_order : ShapeFaultKind → ℕ
fault_order Backward = 1
fault_order OutOfProgram = 2
fault_order IntoWide = 3
fault_order FallsOff = 4
fault_order Unreachable = 5
fault_order Memory = 6

-- a unit has no fault
abbrev pub HasNoFault : List Insn → ℕ → Type 0
HasNoFault program unit = (kind : ShapeFaultKind) → HasShapeFault program unit kind → ⊥

-- the unit has a fault of this kind, and none of a kind that precedes it
pub record IsFirstFaultHere (program : List Insn) (unit : ℕ) (kind : ShapeFaultKind) : Type 0 where
  pub stands : HasShapeFault program unit kind
  pub lowest : (other : ShapeFaultKind) → fault_order other < fault_order kind → HasShapeFault program unit other → ⊥

-- the first fault of a program: the first one at the lowest unit with a fault
pub record IsFirstShapeFault (program : List Insn) (fault : ShapeFault) : Type 0 where
  pub here : IsFirstFaultHere program fault.unit fault.kind
  pub none_before : (lower : ℕ) → lower < fault.unit → HasNoFault program lower

-- a failed allocation, at unit 0
abbrev pub shape_no_memory : ShapeFault
shape_no_memory = record { unit = 0; kind = Memory }
