use Rattle.std.proofs.Common.{sym, ◌∙◌, arith}
use Rattle.std.proofs.lemmas.Bool.{true≢false}
use Rattle.rb_service.proofs.Refusing.{one_right, wrong_first}
use Rattle.rb_service.proofs.refusal.find_wrong.Goals as goal

pub loop-at-preserved : goal.loop-at-preserved
loop-at-preserved c = one_right c.args.rings.now c.loop-at.at _ c.loop-at-test.true (c.is_size.ensures.test.0 c.if-not-is_size.false) c.loop-at.invariant

pub returns-then-not-is_size-clause-found : goal.returns-then-not-is_size-clause-found
returns-then-not-is_size-clause-found c =
    wrong_first c.args.rings.now c.loop-at.at _ c.loop-at-test.true (λ right. true≢false (sym (c.is_size.ensures.test.1 right) ∙ c.if-not-is_size.true)) c.loop-at.invariant

pub returns-clause-right : goal.returns-clause-right
returns-clause-right c = λ k d below. c.loop-at.invariant k d (omega arith) (omega (arith, below, c.loop-at-test.false))
