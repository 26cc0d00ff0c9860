use Rattle.std.proofs.Common.{refl, sym, subst, ◌∙◌, arith}
use Rattle.std.proofs.lemmas.Bool.{true≢false}
use Rattle.rb_history.specs.RingModel.{IsRingSize, IsWorkerCount}
use Rattle.rb_service.specs.declared.rings.PlanFault.TheVariants.{Size}
use Rattle.rb_service.specs.declared.rings.RingPlan.{RingPlan}
use Rattle.rb_service.proofs.Plans.{is_first, no_size, ok_no_error, right_more, size_refused, workers_no_size, workers_unseen}
use Rattle.rb_service.proofs.rings.check_plans.Goals as goal

pub loop-number-preserved : goal.loop-number-preserved
loop-number-preserved g c =
    right_more c.args.plans.now c.loop-number.number c.index-plans-number.result (omega (arith, c.loop-number-test.true)) c.index-plans-number.is (subst (λ (q : RingPlan _). IsRingSize q.size) (sym c.index-plans-number.is) (c.is_size.ensures.test.0 c.if-not-is_size.false)) c.loop-number.invariant

pub returns-then-not-is_size-clause-size : goal.returns-then-not-is_size-clause-size
returns-then-not-is_size-clause-size g c =
    let n = c.loop-number.number in
    let p = c.index-plans-number.result in
    size_refused c.args.plans.now n p (is_first c.args.plans.now n p (omega (arith, c.loop-number-test.true)) c.index-plans-number.is (λ right. true≢false (sym (c.is_size.ensures.test.1 (subst (λ (q : RingPlan _). IsRingSize q.size) c.index-plans-number.is right)) ∙ c.if-not-is_size.true)) c.loop-number.invariant)

pub returns-then-not-is_size-clause-workers : goal.returns-then-not-is_size-clause-workers
returns-then-not-is_size-clause-workers g c =
    let n = c.loop-number.number in
    let p = c.index-plans-number.result in
    workers_unseen c.args.plans.now n (IsWorkerCount c.args.workers) (is_first c.args.plans.now n p (omega (arith, c.loop-number-test.true)) c.index-plans-number.is (λ right. true≢false (sym (c.is_size.ensures.test.1 (subst (λ (q : RingPlan _). IsRingSize q.size) c.index-plans-number.is right)) ∙ c.if-not-is_size.true)) c.loop-number.invariant)

pub returns-then-not-is_worker_count-clause-size : goal.returns-then-not-is_worker_count-clause-size
returns-then-not-is_worker_count-clause-size g c =
    no_size c.args.plans.now _ Size workers_no_size (λ k d below. c.loop-number.invariant k d (omega arith) (omega (arith, below, c.loop-number-test.false)))

pub returns-then-not-is_worker_count-clause-workers : goal.returns-then-not-is_worker_count-clause-workers
returns-then-not-is_worker_count-clause-workers g c = (
  (λ e. ((λ k d below. c.loop-number.invariant k d (omega arith) (omega (arith, below, c.loop-number-test.false))), λ count. true≢false (sym (c.is_worker_count.ensures.test.1 count) ∙ c.if-not-is_worker_count.true))),
  (λ h. refl),
)

pub returns-clause-size : goal.returns-clause-size
returns-clause-size g c =
    no_size c.args.plans.now _ Size (λ m. ok_no_error _ (Size m)) (λ k d below. c.loop-number.invariant k d (omega arith) (omega (arith, below, c.loop-number-test.false)))

pub returns-clause-workers : goal.returns-clause-workers
returns-clause-workers g c = (λ e. absurd (ok_no_error _ _ e), λ h. absurd (h.1 (c.is_worker_count.ensures.test.0 c.if-not-is_worker_count.false)))

pub returns-clause-allowed : goal.returns-clause-allowed
returns-clause-allowed g c = ((λ k d below. c.loop-number.invariant k d (omega arith) (omega (arith, below, c.loop-number-test.false))), c.is_worker_count.ensures.test.0 c.if-not-is_worker_count.false)
