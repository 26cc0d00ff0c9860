use Rattle.rb_world.proofs.WholeRuns.{every-interleaving}
use Rattle.rb_world.proofs.interleaving_laws.every_interleaving_is_well.Goals as goal

pub returns : goal.returns
returns c = every-interleaving
