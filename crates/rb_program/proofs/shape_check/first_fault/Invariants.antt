use Rattle.std.proofs.Common.{ℕ, ◌<◌}
use Rattle.rb_program.proofs.Faultless.{IsFaultless}
use Rattle.rb_program.proofs.shape_check.first_fault.Given as goal

abbrev pub invariant-loop-unit : goal.invariant-loop-unit
invariant-loop-unit l = (lower : ℕ) → lower < l.unit → IsFaultless l.program lower
