use Rattle.std.proofs.Common.{◌≡◌, ◌||◌, drop}
use Rattle.rb_workers.specs.Reports.{has_unknown_ring, has_unknown_worker}
use Rattle.rb_workers.proofs.jobs_run.find_unknown.Given as goal

abbrev pub invariant-loop-job : goal.invariant-loop-job
invariant-loop-job l =
    (has_unknown_ring l.rings l.jobs ≡ (l.ring || has_unknown_ring l.rings (drop l.job-index l.jobs)))
    × (has_unknown_worker l.count l.jobs ≡ (l.worker || has_unknown_worker l.count (drop l.job-index l.jobs)))
