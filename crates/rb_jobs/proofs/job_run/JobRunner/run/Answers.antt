use Rattle.std.proofs.Common.{◌∙◌, refl, ap}
use Rattle.rb_jobs.specs.SeatHelpers.{AtSeats}
use Rattle.rb_jobs.specs.Jobs.{WorkerAtRings, task_of}
use Rattle.rb_jobs.proofs.Doing.{counted_as}
use Rattle.rb_jobs.proofs.job_run.JobRunner.run.Goals as goal

pub returns-clause-ran : goal.returns-clause-ran
returns-clause-ran g c =
    counted_as (task_of c.args.job.now) _ _ _ _ _ _ _ _ _ (ap (λ (h : AtSeats). h.seats) c.in_ok-begin.ensures.begun ∙ ap (λ (r : WorkerAtRings). r.seats) c.self.view_is)
    refl (ap (λ (r : WorkerAtRings). r.calls) c.self.view_is) refl c.run_begun-answer.ensures.ran
