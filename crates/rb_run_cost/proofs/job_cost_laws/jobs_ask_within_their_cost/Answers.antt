use Rattle.rb_run_cost.proofs.Asking.{jobs_ask}
use Rattle.rb_run_cost.proofs.job_cost_laws.jobs_ask_within_their_cost.Goals as goal

pub returns : goal.returns
returns c = jobs_ask
