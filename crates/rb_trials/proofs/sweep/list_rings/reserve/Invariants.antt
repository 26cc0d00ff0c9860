use Rattle.std.proofs.Common.{◌≡◌, length}
use Rattle.rb_trials.proofs.sweep.list_rings.reserve.Given as goal

abbrev pub invariant-loop : goal.invariant-loop
invariant-loop g l = (l.ring.setup ≡ l.fn.ring.setup) × (length l.sheet ≡ 24)
