use Rattle.rb_run_cost.proofs.BusyBounds.{busy_bounded}
use Rattle.rb_run_cost.proofs.world_cost_laws.busy_bytes_are_bounded.Goals as goal

pub returns : goal.returns
returns c = busy_bounded
