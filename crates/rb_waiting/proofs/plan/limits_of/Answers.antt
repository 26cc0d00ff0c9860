use Rattle.std.proofs.Common.{◌≡◌, ◌+◌, ◌*◌, arith, get_or, subst, sym}
use Rattle.rb_waiting.proofs.Sums.{limits_more}
use Rattle.rb_waiting.proofs.plan.limits_of.Goals as goal

pub loop-at-preserved : goal.loop-at-preserved
loop-at-preserved g c =
    let at = c.loop-at.at in
    let i = c.loop-at.invariant in
    let limits = c.loop-at.limits in
    let x = c.index-opened-at-in-loop-at.result in
    let is = c.index-opened-at-in-loop-at.is in
    let sum = get_or c.args.sums.now at 0 in
    let inside = c.loop-at-test.true in
    let each = c.requires.each in
    let size = c.numbers-numbers.ensures.size in
    let workers = c.numbers-numbers.ensures.workers in
    let limit = c.limit_of.ensures.limit in
    let here : c.limit_of.result + x.consumer.seen.setup.workers * (c.args.contexts * sum) + 1 ≡ x.consumer.seen.setup.size = cc in
    let room = i.room in
    let many = i.many in
    let capacity = c.push_reserved.ensures.capacity in
    let len = c.push_reserved.ensures.len in
    let own = limits.ok.0 in
    record {
      room = omega (arith, room, capacity);
      many = omega (arith, many, len);
      limits = λ k d s o below.
          subst (λ l. get_or l k d + (get_or c.args.opened.now k o).consumer.seen.setup.workers * (c.args.contexts * get_or c.args.sums.now k s) + 1 ≡ (get_or c.args.opened.now k o).consumer.seen.setup.size) (sym c.push_reserved.ensures.items)
          (limits_more c.args.opened.now c.args.sums.now limits.items c.args.contexts at c.limit_of.result x (omega (arith, own, many)) inside (omega (arith, inside, each)) is i.limits here k d s o below);
    }
