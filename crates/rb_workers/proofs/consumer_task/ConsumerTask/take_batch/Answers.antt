use Rattle.std.proofs.Common.{refl}
use Rattle.rb_workers.proofs.SinkItems.{same_on, given_on, keeper_on}
use Rattle.rb_workers.proofs.consumer_task.ConsumerTask.take_batch.Goals as goal

pub returns : goal.returns
returns g c =
    let takes = g.S.Sink.takes in
    let t = c.turn_chapter.ensures in
    let p = c.pass_batch.ensures in
    let old = c.args.self.now in
    let mid = c.turn_chapter.new.consumer in
    let now = c.pass_batch.new.consumer in
    record {
      taken = (
        same_on old.consumer mid now t.same p.same,
        p.follows,
        refl,
        given_on takes old.consumer mid now old.sink c.turn_chapter.new.sink c.pass_batch.new.sink p.same.begins t.given p.given,
        keeper_on mid now c.turn_chapter.new.keeper p.same t.keeper,
      );
    }
