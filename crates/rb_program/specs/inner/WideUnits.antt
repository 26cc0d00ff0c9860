-- The second units of wide instructions, as a program stores them.
use Rattle.std.specs.Prelude.{ℕ, Bool, ◌==◌, slice_index_or, List, ◌∷◌}
use Rattle.rb_insn.specs.declared.insn.Insn.{Insn}
use Rattle.rb_insn.specs.declared.insn.Insn.TheVariants.{Exit}
use Rattle.rb_insn.specs.Units.{units_taken}

-- whether the instruction stored before `unit` is wide
abbrev pub follows_wide : List Insn → ℕ → Bool
follows_wide units unit = units_taken (slice_index_or (Exit ∷ units) unit Exit) == 2
