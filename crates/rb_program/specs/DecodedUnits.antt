-- The units of a program as the type `Program` stores them, and the list of instructions that contracts see instead.
use Rattle.std.specs.Prelude.{◌≡◌, ◌-◌, ◌==◌, cond, List, [], ◌∷◌, ◌++◌, replicate, Option, Some, None}
use Rattle.std.specs.List.{AllByRecursion}
use Rattle.rb_insn.specs.declared.insn.Insn.{Insn}
use Rattle.rb_insn.specs.declared.insn.Insn.TheVariants.{Exit}
use Rattle.rb_insn.specs.Spelling.{FieldsFit}
use Rattle.rb_insn.specs.Units.{units_taken}
use Rattle.rb_program.specs.Program.{IsProgram}

-- What is stored for each unit, in order: the instruction that begins there, or a placeholder EXIT at the second unit
-- of a wide one.
abbrev pub kept_units : List Insn → List Insn
kept_units [] = []
kept_units (insn ∷ insns) = (insn ∷ replicate (units_taken insn - 1) Exit) ++ kept_units insns

-- what begins at each unit, where `before` is the unit stored before the first: nothing if that is wide
abbrev pub slots_after : Insn → List Insn → List (Option Insn)
slots_after before [] = []
slots_after before (insn ∷ units) = cond (units_taken before == 2) None (Some insn) ∷ slots_after insn units

-- the instructions that begin at the units of a list
abbrev pub insns_in : List (Option Insn) → List Insn
insns_in [] = []
insns_in (Some insn ∷ units) = insn ∷ insns_in units
insns_in (None ∷ units) = insns_in units

-- the instructions that these stored units represent
abbrev pub insns_kept : List Insn → List Insn
insns_kept units = insns_in (slots_after Exit units)

-- the invariant of a program's stored units
pub record AreUnits (units : List Insn) : Type 0 where
  pub laid_out : kept_units (insns_kept units) ≡ units
  pub bounds : IsProgram (insns_kept units)
  pub fit : AllByRecursion FieldsFit (insns_kept units)
