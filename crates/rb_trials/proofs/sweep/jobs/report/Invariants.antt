use Rattle.rb_workers.specs.Opened.{AreOpened}
use Rattle.rb_trials.proofs.sweep.jobs.report.Given as goal

abbrev pub invariant-loop : goal.invariant-loop
invariant-loop g l = AreOpened (λ s. s.position) l.rings.items
