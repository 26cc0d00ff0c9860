use Rattle.rb_run_cost.proofs.Cutting.{runs_cut}
use Rattle.rb_run_cost.proofs.run_cost_laws.runs_cut_histories.Goals as goal

pub returns : goal.returns
returns c = runs_cut
