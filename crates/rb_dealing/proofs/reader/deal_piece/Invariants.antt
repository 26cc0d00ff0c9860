use Rattle.std.proofs.Common.{◌≡◌, ◌+◌, [], length}
use Rattle.rb_dealing.specs.Dealt.{saturated}
use Rattle.rb_dealing.specs.inner.Feeds.{Fed}
use Rattle.rb_dealing.proofs.reader.deal_piece.Given as goal

abbrev pub invariant-loop : goal.invariant-loop
invariant-loop g l =
    (l.piece ≡ l.fn.piece) × Fed l.fn.feeds [] l.feeds
    × (l.dealing.contexts ≡ saturated (l.fn.dealing.contexts + length l.fn.piece.contexts)) × (l.dealing.dropped ≡ l.fn.dealing.dropped)
    × (l.count ≡ length l.fn.piece.contexts)
