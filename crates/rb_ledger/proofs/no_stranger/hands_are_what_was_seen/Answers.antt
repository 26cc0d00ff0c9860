use Rattle.rb_ledger.proofs.NoStranger.{own-busy-is-seen, hands-are-seen, seen-hands-are-busy}
use Rattle.rb_ledger.proofs.no_stranger.hands_are_what_was_seen.Goals as goal

pub returns : goal.returns
returns c = record { own_busy = own-busy-is-seen; hands = hands-are-seen; later = seen-hands-are-busy }
