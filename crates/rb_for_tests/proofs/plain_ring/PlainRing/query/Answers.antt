use Rattle.rb_history.proofs.Row.{InRow-le}
use Rattle.rb_for_tests.proofs.plain_ring.PlainRing.query.Goals as goal

pub overflow_sub-result : goal.overflow_sub-result
overflow_sub-result c = InRow-le _ _ _ c.self.invariant.kept.in_row

pub returns-in-2 : goal.returns-in-2
returns-in-2 c = record { answer = rw (← c.self.view_is, c.in-2.is) c.self.invariant.kept.consumer_is }
