use Rattle.std.proofs.Common.{◌≡◌}
use Rattle.rb_stream_tests.proofs.worker.piece_of.Given as goal

abbrev pub invariant-loop-number : goal.invariant-loop-number
invariant-loop-number g l = l.piece.ctx_len ≡ l.ctx_len
