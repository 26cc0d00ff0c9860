use Rattle.std.proofs.Common.{◌≡◌}
use Rattle.rb_trials.proofs.sweep.list_rings.send_all.Given as goal

abbrev pub invariant-loop : goal.invariant-loop
invariant-loop g l = l.ring.setup.workers ≡ 1
