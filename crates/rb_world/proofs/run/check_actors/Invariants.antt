use Rattle.std.proofs.Common.{take}
use Rattle.std.specs.Prelude.{All}
use Rattle.rb_world.specs.WorldValue.{IsThere}
use Rattle.rb_world.proofs.run.check_actors.Given as goal

abbrev pub invariant-loop-place : goal.invariant-loop-place
invariant-loop-place l = All (IsThere l.world) (take l.place l.actors)
