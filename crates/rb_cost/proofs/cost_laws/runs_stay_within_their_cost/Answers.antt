use Rattle.rb_cost.proofs.Running.{runs_stay}
use Rattle.rb_cost.proofs.cost_laws.runs_stay_within_their_cost.Goals as goal

pub returns : goal.returns
returns c = runs_stay
