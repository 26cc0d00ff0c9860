use Rattle.rb_jobs.proofs.Returned.{jobs_balance}
use Rattle.rb_jobs.proofs.job_laws.jobs_give_back.Goals as goal

pub returns : goal.returns
returns c = jobs_balance
