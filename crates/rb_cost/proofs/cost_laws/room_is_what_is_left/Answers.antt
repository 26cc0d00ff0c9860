use Rattle.rb_cost.proofs.RingSizes.{room_left}
use Rattle.rb_cost.proofs.cost_laws.room_is_what_is_left.Goals as goal

pub returns : goal.returns
returns c = room_left
