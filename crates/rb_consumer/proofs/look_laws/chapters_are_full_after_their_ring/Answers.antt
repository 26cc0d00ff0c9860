use Rattle.rb_consumer.proofs.BetweenLooks.{full-only-after-the-ring}
use Rattle.rb_consumer.proofs.look_laws.chapters_are_full_after_their_ring.Goals as goal

pub returns : goal.returns
returns c = record { law = full-only-after-the-ring }
