use Rattle.std.proofs.Common.{arith}
use Rattle.rb_stream.proofs.lanes.swap_seats.Goals as goal

pub returns : goal.returns
returns g c = let lens = c.loop-at.auto.lanes in record { swapped = λ k d e below. c.loop-at.invariant.2 k d e (omega (arith, below, lens, c.loop-at-test.false)) }
