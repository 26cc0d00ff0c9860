use Rattle.rb_dealing.specs.Queues.{AreEmptyQueues, AreFeedsOf}
use Rattle.rb_stream_tests.proofs.dealt.deal_to.Given as goal

abbrev pub invariant-loop-pause : goal.invariant-loop-pause
invariant-loop-pause g l = AreFeedsOf l.feeds.items l.lanes.items × AreEmptyQueues l.feeds.items l.lanes.items
