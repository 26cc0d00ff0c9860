use Rattle.std.proofs.Common.{◌≡◌, ◌<◌, ◌∙◌, length, get_or, subst, arith}
use Rattle.std.proofs.lemmas.List.{get_or-set_other}
use Rattle.rb_dealing.specs.inner.Lanes.{LaneFinished}
use Rattle.rb_dealing.proofs.LaneLaws.{finished_more}
use Rattle.rb_dealing.proofs.threads.finish_all.Goals as goal

pub loop-at-preserved : goal.loop-at-preserved
loop-at-preserved g c =
    let i = c.loop-at.invariant in
    let at = c.loop-at.at in
    let f = c.index-feeds-at.result in
    let l = c.index-lanes-at.result in
    let lens : length c.loop-at.lanes ≡ length c.args.lanes.now = c.loop-at.auto.lanes in
    let inside : at < length c.loop-at.lanes = omega (arith, lens, c.loop-at-test.true) in
    let same = c.requires.pairs.0 in
    let one : LaneFinished g.W.Work.ready g.W.Work.runs (get_or c.args.feeds.now at f) (get_or c.args.lanes.now at l) c.finish.new.self =
    subst (λ x. LaneFinished g.W.Work.ready g.W.Work.runs x (get_or c.args.lanes.now at l) c.finish.new.self) (i.1 at f (omega arith))
    (subst (λ x. LaneFinished g.W.Work.ready g.W.Work.runs (get_or c.loop-at.feeds at f) x c.finish.new.self) (i.0 at l (omega arith)) c.finish.ensures.finished) in (
      (λ k d from. get_or-set_other c.loop-at.lanes at k c.finish.new.self d (omega (arith, from)) ∙ i.0 k d (omega (arith, from))),
      (λ k d from. get_or-set_other c.loop-at.feeds at k c.finish.new.feed d (omega (arith, from)) ∙ i.1 k d (omega (arith, from))),
      finished_more g.W.Work.ready g.W.Work.runs c.args.feeds.now c.args.lanes.now c.loop-at.lanes at f l c.finish.new.self inside (omega (arith, inside, lens, same)) (omega (arith, inside, lens)) one i.2,
    )
