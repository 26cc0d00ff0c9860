use Rattle.std.proofs.Common.{take}
use Rattle.std.specs.Prelude.{All}
use Rattle.rb_history.specs.RingModel.{IsRingSize}
use Rattle.rb_engine.proofs.engine.are_sizes.Given as goal

abbrev pub invariant-loop-size : goal.invariant-loop-size
invariant-loop-size l = All IsRingSize (take l.size-index l.sizes)
