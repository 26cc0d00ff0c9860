use Rattle.std.proofs.Common.{◌≡◌, ◌∙◌, ◌∷◌, ◌++◌, [], List, length, sym, ap, subst, rules}
use Rattle.std.specs.Prelude.{All}
use Rattle.std.specs.List.{AllZip}
use Rattle.std.specs.Vec.Iter.{into_iter_items}
use Rattle.std.proofs.lemmas.List.Elements.{All-nil, All-push}
use Rattle.rb_history.specs.RingModel.{IsRingSize, IsStartPosition}
use Rattle.rb_workers.specs.Opened.{IsOpened}
use Rattle.rb_workers.specs.declared.opened.Opened.{Opened}
use Rattle.rb_workers.proofs.Parts.{shift, zip_more, all_first, all_rest, nothing}
use Rattle.rb_service.specs.Rings.{IsFreshFor}
use Rattle.rb_service.specs.declared.rings.RingPlan.{RingPlan}
use Rattle.rb_service.proofs.rings.open_rings.Goals as goal

pub loop-plan-init : goal.loop-plan-init
loop-plan-init g c =
    let same : into_iter_items c.into_iter-plan-iterator.result ≡ c.args.plans.items = c.into_iter-plan-iterator.ensures.into_iter_gives.0 in (
      [],
      same,
      subst (All (λ (p : RingPlan _). IsStartPosition (g.S.Sink.position_of p.sink))) (sym same) c.requires.begins,
      subst (All (λ (p : RingPlan _). IsRingSize p.size)) (sym same) c.requires.sizes,
      subst (All (IsOpened g.S.Sink.position_of c.args.workers)) (sym c.new-opened.ensures.items) (All-nil (IsOpened g.S.Sink.position_of c.args.workers)),
      subst (AllZip (IsFreshFor g.S.Sink.position_of c.args.workers) []) (sym c.new-opened.ensures.items) tt,
    )

pub open_ring-requires-clause-begins : goal.open_ring-requires-clause-begins
open_ring-requires-clause-begins g c = all_first (λ (p : RingPlan _). IsStartPosition (g.S.Sink.position_of p.sink)) _ _ c.in-Some.plan c.in-Some.ensures.steps.0 c.loop-plan.invariant.2

pub open_ring-requires-clause-size : goal.open_ring-requires-clause-size
open_ring-requires-clause-size g c = all_first (λ (p : RingPlan _). IsRingSize p.size) _ _ c.in-Some.plan c.in-Some.ensures.steps.0 c.loop-plan.invariant.3

pub loop-plan-preserved : goal.loop-plan-preserved
loop-plan-preserved g c =
    let i = c.loop-plan.invariant in
    let plan = c.in-Some.plan in
    let steps = c.in-Some.ensures.steps.0 in
    let one = c.in_ok-one.one in
    let grown : c.push_reserved.new.self.items ≡ c.loop-plan.opened.items ++ one ∷ [] = c.push_reserved.ensures.items ∙ ap (λ (l : List (Opened _)). l ++ one ∷ []) c.reserve.ensures.items in (
      i.0 ++ plan ∷ [],
      shift i.0 _ _ _ plan i.1 steps,
      all_rest (λ (p : RingPlan _). IsStartPosition (g.S.Sink.position_of p.sink)) _ _ plan steps i.2,
      all_rest (λ (p : RingPlan _). IsRingSize p.size) _ _ plan steps i.3,
      subst (All (IsOpened g.S.Sink.position_of c.args.workers)) (sym grown) (All-push (IsOpened g.S.Sink.position_of c.args.workers) c.loop-plan.opened.items one i.4 c.in_ok-one.ensures.opened),
      subst (AllZip (IsFreshFor g.S.Sink.position_of c.args.workers) (i.0 ++ plan ∷ [])) (sym grown) (zip_more (IsFreshFor g.S.Sink.position_of c.args.workers) i.0 c.loop-plan.opened.items plan one i.5 c.in_ok-one.ensures.fresh),
    )

pub returns-clause-fresh : goal.returns-clause-fresh
returns-clause-fresh g c =
    let i = c.loop-plan.invariant in
    let z = c.in-None.ensures.steps in
    let none : length (into_iter_items c.loop-plan.plan-iterator) ≡ 0 = search rules in
    let whole : i.0 ≡ c.args.plans.items = nothing i.0 _ _ i.1 none in
    subst (λ (l : List (RingPlan _)). AllZip (IsFreshFor g.S.Sink.position_of c.args.workers) l c.loop-plan.opened.items) whole i.5
