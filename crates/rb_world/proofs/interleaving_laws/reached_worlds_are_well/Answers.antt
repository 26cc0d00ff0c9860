use Rattle.rb_world.proofs.WholeRuns.{leads-on, reached-well}
use Rattle.rb_world.proofs.interleaving_laws.reached_worlds_are_well.Goals as goal

pub returns : goal.returns
returns c = record { well = reached-well; leads_on = leads-on }
