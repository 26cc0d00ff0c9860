use Rattle.std.proofs.Common.{◌≡◌, drop}
use Rattle.std.specs.List.{list_any}
use Rattle.rb_workers.proofs.job_answers.is_any_short.Given as goal

abbrev pub invariant-loop-worker : goal.invariant-loop-worker
invariant-loop-worker l = list_any (λ w. w.short) l.workers ≡ list_any (λ w. w.short) (drop l.worker-index l.workers)
