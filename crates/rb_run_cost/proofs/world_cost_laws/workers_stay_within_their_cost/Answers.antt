use Rattle.rb_run_cost.proofs.WorkersWithin.{workers_within}
use Rattle.rb_run_cost.proofs.world_cost_laws.workers_stay_within_their_cost.Goals as goal

pub returns : goal.returns
returns c = workers_within
