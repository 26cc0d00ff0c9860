use Rattle.rb_cost.proofs.LeastRings.{least_rings}
use Rattle.rb_cost.proofs.ring_size.least_rings_are_least.Goals as goal

pub returns : goal.returns
returns c = least_rings
