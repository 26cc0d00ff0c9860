use Rattle.std.proofs.Common.{sym, subst}
use Rattle.rb_workers.specs.inner.ConsumerTasks.{Consumed}
use Rattle.rb_workers.proofs.SinkItems.{consumed_none, consumed_on, consumed_same}
use Rattle.rb_workers.proofs.consumer_task.consume.Goals as goal
use Rattle.rb_workers.proofs.consumer_task.consume.Goals.{in-None, in-Some+then-count-eq0+then-over}

pub loop-init : goal.loop-init
loop-init g c = consumed_none g.S.Sink.position_of g.S.Sink.takes c.args.task.now c.requires.ready.2 c.requires.ready.3

pub loop-preserved : goal.loop-preserved
loop-preserved g c =
    let pos = g.S.Sink.position_of in
    let takes = g.S.Sink.takes in
    let h = c.hand_on.ensures in
    consumed_on pos takes c.args.task.now c.report_count.new.self c.hand_on.new.self
    (consumed_on pos takes c.args.task.now c.take_batch-count.new.self c.report_count.new.self
    (consumed_on pos takes c.args.task.now c.loop.task c.take_batch-count.new.self c.loop.invariant c.take_batch-count.ensures.taken) c.report_count.ensures.reported)
    (consumed_same pos takes c.report_count.new.self c.report_count.new.self c.hand_on.new.self h.consumer h.keeper h.sink h.seats
    (consumed_none pos takes c.report_count.new.self c.report_count.ensures.reported.1 c.report_count.ensures.reported.4))

pub returns : goal.returns
returns g c =
    let pos = g.S.Sink.position_of in
    let takes = g.S.Sink.takes in
    let old = c.args.task.now in
    record {
      returned = elim c.match-next.branch [
        | in-None w ↦ subst (Consumed pos takes old) (sym w.task-is) c.loop.invariant
        | in-Some+then-count-eq0+then-over w ↦
            let h = w.hand_on.ensures in
            let told = w.report_count.ensures.reported in
            subst (Consumed pos takes old) (sym w.task-is)
            (consumed_on pos takes old w.report_count.new.self w.hand_on.new.self
            (consumed_on pos takes old w.take_batch-count.new.self w.report_count.new.self
            (consumed_on pos takes old c.loop.task w.take_batch-count.new.self c.loop.invariant w.take_batch-count.ensures.taken) told)
            (consumed_same pos takes w.report_count.new.self w.report_count.new.self w.hand_on.new.self h.consumer h.keeper h.sink h.seats
            (consumed_none pos takes w.report_count.new.self told.1 told.4)))
      ];
    }
