-- The answers of all jobs in a report.
use Rattle.std.specs.Prelude.{◌≡◌, ℕ, ◌<◌, List, length, map, slice_index_or}
use Rattle.std.specs.List.{sum_by}
use Rattle.rb_jobs.specs.declared.job.Job.{Job}
use Rattle.rb_jobs.specs.declared.job.JobAnswer.{JobAnswer}
use Rattle.rb_workers.specs.declared.opened.JobsReport.{JobsReport}
use Rattle.rb_workers.specs.declared.workers.Worker.{Worker}
use Rattle.rb_workers.specs.inner.WorkerRuns.{own_answers}

-- the report has an answer of each job, among which each worker's are those that the worker has
pub record ReportMatches {S : Type 0} (jobs : List Job) (workers : List Worker) (report : JobsReport S) : Type 0 where
  pub answers : List JobAnswer
  pub one_each : length answers ≡ length jobs
  pub own_are : (k : ℕ) (d : _) → k < length workers → own_answers k jobs answers ≡ (slice_index_or workers k d).answers.items
  pub results_are : report.answers.items ≡ map (λ a. a.result) answers
  pub strays_are : report.strays ≡ 0
  pub unlogged_is : report.unlogged ≡ sum_by (λ a. a.unlogged) answers
