use Rattle.rb_chapter_ring.proofs.ChangedHands.{one-hand-changes}
use Rattle.rb_chapter_ring.proofs.hand_laws.one_hand_changes.Goals as goal

pub returns : goal.returns
returns c = record { law = one-hand-changes }
