-- Units without a fault.
use Rattle.std.proofs.Common.{◌≡◌, ⊎_elim, ℕ, ◌<◌, sym, ◌∙◌, List, Some, None}
use Rattle.std.proofs.lemmas.Bool.{cases_lt}
use Rattle.std.proofs.lemmas.List.{get_or_past}
use Rattle.rb_insn.specs.declared.insn.Insn.{Insn}
use Rattle.rb_program.specs.Program.{units_of, unit_count, slot_at}
use Rattle.rb_program.specs.declared.shape_fault.ShapeFaultKind.{ShapeFaultKind}
use Rattle.rb_program.specs.declared.shape_fault.ShapeFaultKind.TheVariants.{Backward, OutOfProgram, IntoWide, FallsOff, Unreachable, Memory}
use Rattle.rb_program.specs.Edges.{IsReached}
use Rattle.rb_program.specs.ShapeFaults.{HasShapeFault, HasNoFault}
use Rattle.rb_program.specs.Shape.{IsInstructionStart, IsWellShaped}

-- a unit without a fault, which is reachable if an instruction begins there
pub record IsFaultless (program : List Insn) (unit : ℕ) : Type 0 where
  pub no_fault : HasNoFault program unit
  pub reached : IsInstructionStart program unit → IsReached program unit

-- only instructions have faults
pub stands-begins : (program : List Insn) (unit : ℕ) (kind : ShapeFaultKind) → HasShapeFault program unit kind → IsInstructionStart program unit
stands-begins program unit Backward fault = (fault.0, fault.1)
stands-begins program unit OutOfProgram fault = (fault.1.insn, fault.1.begins)
stands-begins program unit IntoWide fault = (fault.1.insn, fault.1.begins)
stands-begins program unit FallsOff fault = (fault.1.insn, fault.1.begins)
stands-begins program unit Unreachable fault = (fault.0, fault.1)
stands-begins program unit Memory fault = absurd fault

none_begins : (program : List Insn) (unit : ℕ) → slot_at program unit ≡ None → IsInstructionStart program unit → ⊥
none_begins program unit none begins = let clash : None ≡ Some begins.0 = sym none ∙ begins.1 in cc

pub faultless_none : (program : List Insn) (unit : ℕ) → slot_at program unit ≡ None → IsFaultless program unit
faultless_none program unit none = record {
  no_fault = λ kind fault. none_begins program unit none (stands-begins program unit kind fault);
  reached = λ begins. absurd (none_begins program unit none begins);
}

-- a program is well shaped if none of its units has a fault
pub well_shaped_from : (program : List Insn) → ((unit : ℕ) → unit < unit_count program → IsFaultless program unit) → IsWellShaped program
well_shaped_from program each = record {
  no_fault = λ unit. (at unit).no_fault;
  reached = λ unit. (at unit).reached;
}
  where
    at : (unit : ℕ) → IsFaultless program unit
    at unit = ⊎_elim (λ inside. each unit inside) (λ past. faultless_none program unit (get_or_past (units_of program) unit None past)) (cases_lt unit (unit_count program))
