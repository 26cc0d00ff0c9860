use Rattle.rb_cost.proofs.Coming.{runs_have_moments}
use Rattle.rb_cost.proofs.cost_laws.runs_have_moments.Goals as goal

pub returns : goal.returns
returns c = runs_have_moments
