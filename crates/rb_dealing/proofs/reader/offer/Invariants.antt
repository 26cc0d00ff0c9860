use Rattle.std.proofs.Common.{◌≡◌, []}
use Rattle.rb_dealing.specs.inner.Feeds.{Fed}
use Rattle.rb_dealing.proofs.reader.offer.Given as goal

abbrev pub invariant-loop-step : goal.invariant-loop-step
invariant-loop-step l = (l.piece ≡ l.fn.piece) × Fed l.fn.feeds [] l.feeds
