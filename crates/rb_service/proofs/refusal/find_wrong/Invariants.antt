use Rattle.std.specs.List.{AllWithin}
use Rattle.rb_history.specs.RingModel.{IsRingSize}
use Rattle.rb_service.proofs.refusal.find_wrong.Given as goal

-- the sizes so far are right
abbrev pub invariant-loop-at : goal.invariant-loop-at
invariant-loop-at l = AllWithin (λ r. IsRingSize r.size) l.rings 0 l.at
