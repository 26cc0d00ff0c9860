use Rattle.std.proofs.Common.{[]}
use Rattle.rb_dealing.specs.inner.Feeds.{Fed}
use Rattle.rb_dealing.proofs.reader.empty_piece.Given as goal

abbrev pub invariant-loop-at : goal.invariant-loop-at
invariant-loop-at l = Fed l.fn.feeds [] l.feeds
