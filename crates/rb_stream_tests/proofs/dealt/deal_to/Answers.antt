use Rattle.std.proofs.Common.{List, sym, subst}
use Rattle.rb_dealing.specs.Queues.{AreEmptyQueues}
use Rattle.rb_dealing.specs.declared.lane.LaneFeed.{LaneFeed}
use Rattle.rb_dealing.specs.declared.lane.Lane.{Lane}
use Rattle.rb_stream_tests.specs.declared.dealt.Adder.{Adder}
use Rattle.rb_stream_tests.proofs.dealt.deal_to.Goals as goal

pub run_lanes-dealt-requires-clause-empty : goal.run_lanes-dealt-requires-clause-empty
run_lanes-dealt-requires-clause-empty g c κs within =
    subst (λ (fs : List LaneFeed). AreEmptyQueues fs c.as_mut_slice-2.result.now) (sym c.as_mut_slice.ensures.value)
    (subst (λ (ls : List (Lane Adder)). AreEmptyQueues c.loop-pause.feeds.items ls) (sym c.as_mut_slice-2.ensures.value) c.loop-pause.invariant.1)
