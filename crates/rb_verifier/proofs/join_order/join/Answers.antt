use Rattle.std.proofs.Common.{◌≡◌, ◌≢◌, length, sym, ◌∙◌, arith, rules, length-set, get_or-set_other}
use Rattle.rb_verifier.specs.declared.value.Abs.TheVariants.{Unreadable}
use Rattle.rb_verifier.specs.inner.ValueJoins.{IsJoinValue}
use Rattle.rb_verifier.proofs.Registers.{join_by_values, joined_more, everywhere, unreadable_join}
use Rattle.rb_verifier.proofs.join_order.join.Goals as goal

pub loop-i-preserved : goal.loop-i-preserved
loop-i-preserved c = record {
  count = length-set c.loop-i.values c.loop-i.i c.join_value.result ∙ c.loop-i.invariant.count;
  joined = joined_more c.args.left.now.values c.args.right.now.values c.loop-i.values c.loop-i.i c.join_value.result (omega arith) (c.loop-i.invariant.left c.loop-i.i (omega arith)) c.loop-i.invariant.joined c.join_value.ensures;
  left = λ r k. let ne : r ≢ c.loop-i.i = omega arith in get_or-set_other c.loop-i.values c.loop-i.i r c.join_value.result Unreadable ne ∙ c.loop-i.invariant.left r (omega arith);
}

pub returns-clause-joined : goal.returns-clause-joined
returns-clause-joined c =
    let same : c.args.left.now.held ≡ c.args.right.now.held = search rules in
    let left : length c.args.left.now.values ≡ 11 = omega arith in
    let right : length c.args.right.now.values ≡ 11 = omega arith in
    join_by_values c.args.left.now c.args.right.now _ same c.copy.ensures (left ∙ sym right) (c.loop-i.invariant.count ∙ sym left)
    (everywhere IsJoinValue c.args.left.now.values c.args.right.now.values c.loop-i.values unreadable_join left right c.loop-i.invariant.count (λ r k. c.loop-i.invariant.joined r (omega arith)))
    c.in_ok-places.ensures.joined
