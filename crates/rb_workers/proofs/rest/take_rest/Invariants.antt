use Rattle.std.proofs.Common.{◌≡◌}
use Rattle.rb_workers.specs.inner.ConsumerTasks.{IsConsumed, joined_ring}
use Rattle.rb_workers.proofs.rest.take_rest.Given as goal

abbrev pub invariant-loop : goal.invariant-loop
invariant-loop g l =
    IsConsumed g.S.Sink.position_of g.S.Sink.takes (joined_ring l.ring l.fn.task) (joined_ring l.ring l.task) × (l.task.returned_seats ≡ l.fn.task.returned_seats)
