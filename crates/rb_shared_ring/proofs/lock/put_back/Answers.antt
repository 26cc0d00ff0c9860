use Rattle.rb_shared_ring.proofs.LockedSteps.{put-step}
use Rattle.rb_shared_ring.proofs.lock.put_back.Goals as goal

pub push_as-requires-clause-rule : goal.push_as-requires-clause-rule
push_as-requires-clause-rule g c = put-step _ _ _ _ c.requires.step
