use Rattle.std.proofs.Common.{refl}
use Rattle.rb_workers.specs.inner.ConsumerTasks.{joined_ring}
use Rattle.rb_workers.proofs.Whole.{consumed_batch, consumed_itself}
use Rattle.rb_workers.proofs.rest.take_rest.Goals as goal

pub loop-init : goal.loop-init
loop-init g c =
    let ready = c.requires.ready in
    (consumed_itself g.S.Sink.position_of g.S.Sink.takes (joined_ring c.args.ring.now c.args.task.now) ready.2 ready.3, refl)

pub returns-then-is_drained : goal.returns-then-is_drained
returns-then-is_drained g c =
    let i = c.loop.invariant in
    let p = c.pass_batch-count.ensures in
    let ring = c.args.ring.now in
    record {
      rest = (
        consumed_batch g.S.Sink.position_of g.S.Sink.takes (joined_ring ring c.args.task.now) (joined_ring ring c.loop.task) c.pass_batch-count.new.consumer c.pass_batch-count.new.sink i.0 p.same p.follows p.given,
        refl,
        i.1,
        c.is_drained.ensures.drained ring c.if-is_drained.true,
      );
    }

pub loop-preserved-then-count-eq0-2 : goal.loop-preserved-then-count-eq0-2
loop-preserved-then-count-eq0-2 g c =
    let i = c.loop.invariant in
    let p = c.pass_batch-count.ensures in
    let ring = c.args.ring.now in
    (consumed_batch g.S.Sink.position_of g.S.Sink.takes (joined_ring ring c.args.task.now) (joined_ring ring c.loop.task) c.pass_batch-count.new.consumer c.pass_batch-count.new.sink i.0 p.same p.follows p.given, i.1)

pub loop-preserved : goal.loop-preserved
loop-preserved g c =
    let i = c.loop.invariant in
    let p = c.pass_batch-count.ensures in
    let ring = c.args.ring.now in
    (consumed_batch g.S.Sink.position_of g.S.Sink.takes (joined_ring ring c.args.task.now) (joined_ring ring c.loop.task) c.pass_batch-count.new.consumer c.pass_batch-count.new.sink i.0 p.same p.follows p.given, i.1)
