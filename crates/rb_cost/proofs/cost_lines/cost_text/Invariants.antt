use Rattle.std.proofs.Common.{◌≡◌, ◌++◌}
use Rattle.std.specs.Prelude.{string_bytes}
use Rattle.rb_cost.specs.CostLines.{front_text, rings_text}
use Rattle.rb_cost.proofs.cost_lines.cost_text.Given as goal

abbrev pub invariant-loop-ring : goal.invariant-loop-ring
invariant-loop-ring l = string_bytes l.text ≡ front_text l.form l.cost ++ rings_text l.form l.jobs l.cost.rings.items l.ring
