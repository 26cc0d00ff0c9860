use Rattle.std.specs.List.{AllWithin}
use Rattle.rb_history.specs.RingModel.{IsRingSize}
use Rattle.rb_service.proofs.rings.check_plans.Given as goal

-- the sizes so far are right
abbrev pub invariant-loop-number : goal.invariant-loop-number
invariant-loop-number g l = AllWithin (λ p. IsRingSize p.size) l.plans 0 l.number
