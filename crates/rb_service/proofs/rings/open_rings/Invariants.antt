use Rattle.std.specs.Prelude.{◌≡◌, List, ◌++◌, All}
use Rattle.std.specs.List.{AllZip}
use Rattle.std.specs.Vec.Iter.{into_iter_items}
use Rattle.rb_history.specs.RingModel.{IsRingSize, IsStartPosition}
use Rattle.rb_workers.specs.Opened.{IsOpened}
use Rattle.rb_service.specs.Rings.{IsFreshFor}
use Rattle.rb_service.specs.declared.rings.RingPlan.{RingPlan}
use Rattle.rb_service.proofs.rings.open_rings.Given as goal

-- the rings of the first plans were opened
abbrev pub invariant-loop-plan : goal.invariant-loop-plan
invariant-loop-plan g l =
    let rest = into_iter_items l.plan-iterator in
    (done : List (RingPlan _)) × (done ++ rest ≡ l.fn.plans.items)
    × All (λ p. IsStartPosition (g.S.Sink.position_of p.sink)) rest × All (λ p. IsRingSize p.size) rest
    × All (IsOpened g.S.Sink.position_of l.workers) l.opened.items × AllZip (IsFreshFor g.S.Sink.position_of l.workers) done l.opened.items
