use Rattle.std.specs.Prelude.{◌≡◌, take, false}
use Rattle.rb_workers.specs.JobRuns.{own_jobs}
use Rattle.rb_workers.specs.inner.WorkerRuns.{RunsJobs}
use Rattle.rb_workers.proofs.workers.Worker.run_all.Given as goal

abbrev pub invariant-loop-job : goal.invariant-loop-job
invariant-loop-job g l =
    (l.self.number ≡ l.initial.self.number) × (l.self.short ≡ false) × (l.runner.rings ≡ l.initial.runner.rings)
    × RunsJobs (own_jobs l.initial.self.number (take l.job-index l.jobs)) l.self.answers.items l.initial.runner.seats l.runner.seats
