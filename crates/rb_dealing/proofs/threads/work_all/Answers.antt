use Rattle.std.proofs.Common.{subst, get_or}
use Rattle.rb_dealing.specs.inner.Lanes.{LaneRan}
use Rattle.rb_dealing.specs.declared.lane.Lane.{Lane}
use Rattle.rb_dealing.proofs.threads.work_all.Goals as goal

pub returns : goal.returns
returns g c =
    let news = c.for_each_mut.new.s in
    record {
      ran = λ i d below.
          let at = (c.for_each_mut.ensures i d below).1 in
          subst (λ (x : Lane _). LaneRan g.W.Work.ready g.W.Work.runs x (get_or news i d)) at.argument_is
          (subst (λ (y : Lane _). LaneRan g.W.Work.ready g.W.Work.runs at.argument.now y) at.left at.call);
    }
