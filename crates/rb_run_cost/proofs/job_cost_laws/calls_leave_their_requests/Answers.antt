use Rattle.rb_run_cost.proofs.Leaving.{calls_leave}
use Rattle.rb_run_cost.proofs.job_cost_laws.calls_leave_their_requests.Goals as goal

pub returns : goal.returns
returns c = calls_leave
