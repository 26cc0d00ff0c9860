use Rattle.rb_run_cost.proofs.Refusals.{no_job_refused}
use Rattle.rb_run_cost.proofs.run_cost_laws.running_jobs_are_not_refused.Goals as goal

pub returns : goal.returns
returns g c = no_job_refused g.S.Sink.position_of g.S.Sink.takes
