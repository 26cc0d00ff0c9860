use Rattle.rb_workers.specs.Opened.{AreOpened}
use Rattle.rb_run_tests.proofs.workers.refused.run_again.Given as goal

abbrev pub invariant-loop : goal.invariant-loop
invariant-loop g l = AreOpened (λ c. c.position) l.rings.items
