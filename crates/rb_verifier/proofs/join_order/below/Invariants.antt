use Rattle.std.proofs.Common.{◌<◌, ℕ, get_or}
use Rattle.rb_verifier.specs.declared.value.Abs.TheVariants.{Unreadable}
use Rattle.rb_verifier.specs.AbstractValues.{BelowValue}
use Rattle.rb_verifier.proofs.join_order.below.Given as goal

abbrev pub invariant-loop-i : goal.invariant-loop-i
invariant-loop-i l = (r : ℕ) → r < l.i → BelowValue (get_or l.state.values r Unreadable) (get_or l.upper.values r Unreadable)
