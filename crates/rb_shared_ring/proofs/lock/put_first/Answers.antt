use Rattle.rb_shared_ring.proofs.LockedSteps.{open-step}
use Rattle.rb_shared_ring.proofs.lock.put_first.Goals as goal

pub push_as-requires-clause-rule : goal.push_as-requires-clause-rule
push_as-requires-clause-rule g c = open-step _ _ _ _ c.requires.unopened c.requires.opened.0 c.requires.opened.1 c.requires.hands.0 c.requires.hands.1
