use Rattle.std.proofs.Common.{refl, ap, sym}
use Rattle.rb_jobs.specs.SeatHelpers.{AtSeats}
use Rattle.rb_jobs.specs.Jobs.{task_of}
use Rattle.rb_jobs.proofs.Doing.{counted_as}
use Rattle.rb_jobs.proofs.job_run.run_job.Goals as goal

pub returns-in-Ok-clause-ran : goal.returns-in-Ok-clause-ran
returns-in-Ok-clause-ran g c =
    counted_as (task_of c.args.job.now) _ _ _ _ _ _ _ _ _ (ap (λ (h : AtSeats). h.seats) c.in-Ok.ensures.new) (sym c.into_seats.ensures.seats) refl refl c.run_begun-answer.ensures.ran
