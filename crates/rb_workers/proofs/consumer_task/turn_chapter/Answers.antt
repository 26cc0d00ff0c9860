use Rattle.std.proofs.Common.{[], ◌∷◌, sym, subst}
use Rattle.rb_ledger.specs.ChapterSeats.{ChapterConsumerSeat}
use Rattle.rb_workers.specs.inner.ConsumerTasks.{HasGiven}
use Rattle.rb_workers.proofs.ChapterTurns.{turn_same, turned_none, turned_one}
use Rattle.rb_workers.proofs.SinkItems.{nothing_given}
use Rattle.rb_workers.proofs.consumer_task.turn_chapter.Goals as goal

pub returns-then-not-looks-clause-given : goal.returns-then-not-looks-clause-given
returns-then-not-looks-clause-given g c = nothing_given g.S.Sink.takes c.args.consumer.now c.args.sink.now

pub returns-in-Ok-Some-clause-same : goal.returns-in-Ok-Some-clause-same
returns-in-Ok-Some-clause-same g c =
    let e = c.in-Ok-Some.ensures in
    turn_same c.args.keeper.now.margin c.args.consumer.now c.turn.new.seat (c.in-Ok-Some.chapter.now ∷ []) (rw c.in-Ok-Some.field-0-is at e.turn) e.seat

pub returns-in-Ok-Some-clause-given : goal.returns-in-Ok-Some-clause-given
returns-in-Ok-Some-clause-given g c =
    let e = c.in-Ok-Some.ensures in
    turned_one c.args.keeper.now.margin c.args.consumer.now c.turn.new.seat g.S.Sink.takes c.in-Ok-Some.chapter.now c.args.sink.now c.chapter.new.self (rw c.in-Ok-Some.field-0-is at e.turn) e.numbers
    (rw c.in-Ok-Some.field-0-is at e.chapters) c.chapter.ensures.took

pub returns-in-Ok-None-clause-given : goal.returns-in-Ok-None-clause-given
returns-in-Ok-None-clause-given g c =
    let e = c.in-Ok-None.ensures in
    turned_none c.args.keeper.now.margin c.args.consumer.now c.turn.new.seat g.S.Sink.takes c.args.sink.now (rw c.in-Ok-None.field-0-is at e.turn) e.numbers (rw c.in-Ok-None.field-0-is at e.chapters)

pub returns-in-Err-clause-given : goal.returns-in-Err-clause-given
returns-in-Err-clause-given g c =
    let takes = g.S.Sink.takes in
    let x = c.args.sink.now in
    subst (λ (s : ChapterConsumerSeat). HasGiven takes c.args.consumer.now s x x) (sym c.in-Err.ensures.unchanged) (nothing_given takes c.args.consumer.now x)
