use Rattle.std.proofs.Common.{refl, arith}
use Rattle.rb_stream_tests.proofs.in_memory.written.Goals as goal

pub open-requires-clause-size : goal.open-requires-clause-size
open-requires-clause-size c = ((12, refl), omega arith, omega arith)
