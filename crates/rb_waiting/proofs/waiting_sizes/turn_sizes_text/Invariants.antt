use Rattle.std.proofs.Common.{◌≡◌}
use Rattle.std.specs.Prelude.{string_bytes}
use Rattle.rb_waiting.specs.TurnSizes.{rings_text}
use Rattle.rb_waiting.proofs.waiting_sizes.turn_sizes_text.Given as goal

abbrev pub invariant-loop-ring : goal.invariant-loop-ring
invariant-loop-ring l = string_bytes l.text ≡ rings_text l.form l.workers l.cost.rings.items l.ring
