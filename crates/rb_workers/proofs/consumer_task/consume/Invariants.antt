use Rattle.rb_workers.specs.inner.ConsumerTasks.{Consumed}
use Rattle.rb_workers.proofs.consumer_task.consume.Given as goal

abbrev pub invariant-loop : goal.invariant-loop
invariant-loop g l = Consumed g.S.Sink.position_of g.S.Sink.takes l.initial.task l.task
