use Rattle.rb_cost.proofs.RingSizes.{none_behind}
use Rattle.rb_cost.proofs.cost_laws.none_is_refused_behind.Goals as goal

pub returns : goal.returns
returns c = none_behind
