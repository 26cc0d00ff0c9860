use Rattle.std.proofs.Common.{◌≡◌, ◌++◌, take, drop, map}
use Rattle.heskavo_c.specs.Costs.{ring_row}
use Rattle.heskavo_c.proofs.program_cost.put_rows.Given as goal

abbrev pub invariant-loop-ring : goal.invariant-loop-ring
invariant-loop-ring l = l.rows ≡ map ring_row (take l.ring l.costs) ++ drop l.ring l.initial.rows
