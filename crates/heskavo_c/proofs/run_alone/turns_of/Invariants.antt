use Rattle.std.proofs.Common.{◌≡◌}
use Rattle.heskavo_c.specs.Runs.{turns_alone}
use Rattle.heskavo_c.proofs.run_alone.turns_of.Given as goal

abbrev pub invariant-loop-ring : goal.invariant-loop-ring
invariant-loop-ring l = l.turns.items ≡ turns_alone l.units l.ring
