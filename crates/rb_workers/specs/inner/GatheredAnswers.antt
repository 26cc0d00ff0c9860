-- The answers of all jobs, gathered from the workers.
use Rattle.std.specs.Prelude.{◌≡◌, ℕ, ◌<◌, List, length, map, slice_index_or}
use Rattle.std.specs.List.{sum_by}
use Rattle.rb_jobs.specs.declared.job.Job.{Job}
use Rattle.rb_jobs.specs.declared.job.JobAnswer.{JobAnswer}
use Rattle.rb_workers.specs.declared.job_answers.Gathered.{Gathered}
use Rattle.rb_workers.specs.declared.workers.Worker.{Worker}
use Rattle.rb_workers.specs.inner.WorkerRuns.{own_answers}

-- there is an answer of each job, among which each worker's are those that the worker has, and the gathered results and
-- counts are those of these answers
pub record GathersAnswers (jobs : List Job) (workers : List Worker) (gathered : Gathered) : Type 0 where
  pub answers : List JobAnswer
  pub one_each : length answers ≡ length jobs
  pub own_are : (k : ℕ) (d : _) → k < length workers → own_answers k jobs answers ≡ (slice_index_or workers k d).answers.items
  pub results_are : gathered.results.items ≡ map (λ a. a.result) answers
  pub unlogged_is : gathered.unlogged ≡ sum_by (λ a. a.unlogged) answers
