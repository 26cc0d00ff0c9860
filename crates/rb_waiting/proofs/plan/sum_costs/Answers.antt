use Rattle.std.proofs.Common.{◌≡◌, ◌∙◌, ◌≤◌, List, ℕ, ap, arith, length, subst, sym, take}
use Rattle.rb_verifier.specs.Subject.{Subject}
use Rattle.rb_workers.proofs.Whole.{lent_whole}
use Rattle.rb_waiting.specs.inner.Sums.{AddsCost, AreSums}
use Rattle.rb_waiting.proofs.Sums.{are_sums_more, cost_rings}
use Rattle.rb_waiting.proofs.plan.sum_costs.Goals as goal

pub add_cost-requires : goal.add_cost-requires
add_cost-requires c =
    let p = c.program-item.result in
    let below = c.loop-program-test.true in
    let enough : c.args.rings ≤ p.rings = subst (λ (s : Subject). c.args.rings ≤ s.rings) (sym c.program-item.is) (c.requires.known c.loop-program.program-index p below) in
    let rings = cost_rings p c.in_ok-cost.cost c.is_verified.ensures c.in_ok-cost.ensures in
    let now = ap length c.as_mut_slice.ensures.value in
    let many = c.loop-program.invariant.many in
    record { rings = omega (arith, enough, rings, now, many) }

pub loop-program-preserved : goal.loop-program-preserved
loop-program-preserved c =
    let p = c.program-item.result in
    let sums = c.loop-program.sums in
    let news = c.add_cost.new.sums in
    let now = ap length c.as_mut_slice.ensures.value in
    let kept = c.add_cost.auto.sums in
    let long : length news ≡ length sums.items = omega (arith, now, kept) in
    let lent = lent_whole sums.len news sums.items (long ∙ sym sums.ok.0) in
    let added = subst (λ (l : List ℕ). AddsCost c.in_ok-cost.cost l news) c.as_mut_slice.ensures.value c.add_cost.ensures.added in
    subst (AreSums (take _ c.args.programs.now) c.args.rings) (sym lent)
    (are_sums_more c.args.programs.now c.loop-program.program-index p c.in_ok-cost.cost c.args.rings sums.items news c.loop-program-test.true c.program-item.is c.loop-program.invariant c.in_ok-cost.ensures long added)
