use Rattle.rb_workers.proofs.Giving.{IsLeft}
use Rattle.rb_workers.proofs.consumer_task.pass_items.Given as goal

abbrev pub invariant-loop-item : goal.invariant-loop-item
invariant-loop-item g l = IsLeft g.S.Sink.position_of g.S.Sink.takes l.fn.sink l.fn.items l.sink l.items
