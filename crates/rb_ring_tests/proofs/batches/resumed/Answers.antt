use Rattle.std.proofs.Common.{refl, arith}
use Rattle.rb_ring_tests.proofs.batches.resumed.Goals as goal

pub new-tape-requires-clause-size : goal.new-tape-requires-clause-size
new-tape-requires-clause-size c = ((12, refl), omega arith, omega arith)
