use Rattle.std.proofs.Common.{refl, ◌∙◌}
use Rattle.rb_ledger.proofs.Beginnings.{begins_with_all}
use Rattle.rb_workers.proofs.SinkItems.{caught_up, consumed_none}
use Rattle.rb_workers.proofs.consumer_task.ConsumerTask.report_count.Goals as goal

pub returns-then-count-lt-BATCH : goal.returns-then-count-lt-BATCH
returns-then-count-lt-BATCH g c =
    let task = c.args.self.now in
    let told = c.caught_up.ensures in
    record {
      reported = (
        record { tag_same = refl; ring_same = refl; room_same = refl; begins = begins_with_all task.consumer.seen },
        told.stays ∙ c.requires.follows,
        refl,
        caught_up g.S.Sink.takes task.consumer task.sink c.caught_up.new.self told.took,
        c.requires.keeper,
      );
    }

pub returns-else-count-lt-BATCH : goal.returns-else-count-lt-BATCH
returns-else-count-lt-BATCH g c = record { reported = consumed_none g.S.Sink.position_of g.S.Sink.takes c.args.self.now c.requires.follows c.requires.keeper }
