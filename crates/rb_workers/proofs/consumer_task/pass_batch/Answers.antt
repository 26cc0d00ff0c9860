use Rattle.std.proofs.Common.{◌≡◌, List, ap, sym, ◌∙◌, subst}
use Rattle.rb_history.specs.TapeBytes.{end_of}
use Rattle.rb_history.specs.declared.answers.Taken.{Taken}
use Rattle.rb_history.specs.ManyTakes.{TakesMany}
use Rattle.rb_ledger.proofs.EntryRoom.{behind-over-all}
use Rattle.rb_tape.specs.Items.{tape_items}
use Rattle.rb_workers.specs.Sink.{TakesAll}
use Rattle.rb_workers.specs.inner.ConsumerTasks.{items_among}
use Rattle.rb_workers.proofs.SinkItems.{many_given, same_by_many}
use Rattle.rb_workers.proofs.consumer_task.pass_batch.Goals as goal

pub returns : goal.returns
returns g c =
    let pos = g.S.Sink.position_of in
    let takes = g.S.Sink.takes in
    let e = c.in-Ok.ensures in
    let old = c.args.consumer.now in
    let now = c.fill.new.seat in
    let x = c.args.sink.now in
    let y = c.pass_items.new.sink in
    let ts = c.fill.new.self.taken in
    let n = c.args.batch.now.capacity in
    let items : c.items.result ≡ ts = c.items.ensures.value in
    let moved : pos y ≡ now.position = c.pass_items.ensures.moved ∙ (ap (λ n. end_of n (tape_items c.items.result)) c.requires.follows ∙ (ap (λ (l : List Taken). end_of old.position (tape_items l)) items ∙ sym e.end)) in
    let whole = behind-over-all _ _ _ _ (TakesMany n ts) e.call in
    record {
      same = same_by_many n ts old now e.seat whole;
      follows = moved;
      given = many_given takes n ts old now x y whole e.place e.position e.got c.fill.ensures.chapters (subst (λ (l : List Taken). TakesAll takes x (items_among l) y) items c.pass_items.ensures.given);
    }
