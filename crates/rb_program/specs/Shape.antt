-- Properties of well-shaped programs.
use Rattle.std.specs.Prelude.{◌≡◌, ℕ, ◌+◌, ◌<◌, ℤ, true, List, Some}
use Rattle.rb_insn.specs.declared.insn.Insn.{Insn}
use Rattle.rb_insn.specs.Units.{units_taken}
use Rattle.rb_program.specs.Program.{slot_at}
use Rattle.rb_program.specs.Edges.{Edge, Target, falls_through, distance_of, edge_target, HasEdge, IsReached}
use Rattle.rb_program.specs.ShapeFaults.{HasNoFault}

-- an instruction begins at a unit
abbrev pub IsInstructionStart : List Insn → ℕ → Type 0
IsInstructionStart program unit = (insn : Insn) × (slot_at program unit ≡ Some insn)

-- each instruction is reachable from the first unit
abbrev pub AllIsReached : List Insn → Type 0
AllIsReached program = (unit : ℕ) → IsInstructionStart program unit → IsReached program unit

-- the program has no fault; that no instruction is unreachable follows, too, from the paths
pub record IsWellShaped (program : List Insn) : Type 0 where
  pub no_fault : (unit : ℕ) → HasNoFault program unit
  pub reached : AllIsReached program

-- each edge leads to a later unit, at which an instruction begins
abbrev pub EdgesLeadForward : List Insn → Type 0
EdgesLeadForward program =
    (from : ℕ) (along : Edge) (to : ℕ) → HasEdge program from along to → (from < to) × IsInstructionStart program to

-- if execution may continue after an instruction, another one begins there
abbrev pub NothingFallsOff : List Insn → Type 0
NothingFallsOff program =
    (unit : ℕ) (insn : Insn) → slot_at program unit ≡ Some insn → falls_through insn ≡ true → IsInstructionStart program (unit + units_taken insn)

-- each jump has a target unit
abbrev pub JumpsLand : List Insn → Type 0
JumpsLand program =
    (unit : ℕ) (insn : Insn) (distance : ℤ) → slot_at program unit ≡ Some insn → distance_of insn ≡ Some distance
    → (to : ℕ) × (edge_target unit insn Target ≡ Some to)

-- each instruction but the first is entered by an edge from an earlier one
abbrev pub EachIsEntered : List Insn → Type 0
EachIsEntered program =
    (unit : ℕ) → IsInstructionStart program unit → 0 < unit
    → (from : ℕ) × (along : Edge) × HasEdge program from along unit × (from < unit)
