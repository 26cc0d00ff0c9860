use Rattle.std.proofs.Common.{◌∷◌, ◌+◌, [], Bool, true, subst, sym, take}
use Rattle.std.specs.Io.KnownBytes.{Appends}
use Rattle.rb_history.specs.TapeBytes.{item_bytes}
use Rattle.rb_tape.specs.Items.{item_of}
use Rattle.rb_run_commands.specs.TapedRun.{SinkTape, WritesOn}
use Rattle.rb_run_commands.proofs.TapeGiven.{lent_is, sink_tape, gives_up, ends_before, writes_record}
use Rattle.rb_run_commands.proofs.tape_sink.TapeSinkSink.record.Goals as goal

pub returns-then-self-clause-took : goal.returns-then-self-clause-took
returns-then-self-clause-took g c =
    let t = c.self.inside in
    let item = item_of c.args.item.now in
    let position = t.position + c.span-span.result in
    let left = sink_tape t.tape.writer t.size position t.failed t.stalled in (
      subst (λ l. WritesOn g.W.Write.contents c.args.self.now l left) (sym (lent_is c.args.item.now))
          (subst (λ s. WritesOn g.W.Write.contents s (item ∷ []) left) c.self.view_is (gives_up g.W.Write.contents t.tape.writer t.size t.position position t.stalled item t.failed c.if-self.true)),
      tt,
    )

pub returns-then-span-self-clause-took : goal.returns-then-span-self-clause-took
returns-then-span-self-clause-took g c =
    let t = c.self.inside in
    let item = item_of c.args.item.now in
    let position = t.position + c.span-span.result in
    let left = sink_tape t.tape.writer t.size position true t.stalled in (
      subst (λ l. WritesOn g.W.Write.contents c.args.self.now l left) (sym (lent_is c.args.item.now))
          (subst (λ s. WritesOn g.W.Write.contents s (item ∷ []) left) c.self.view_is (ends_before g.W.Write.contents t.tape.writer t.size t.position position t.stalled item t.failed c.if-self.false)),
      tt,
    )

pub returns-clause-took : goal.returns-clause-took
returns-clause-took g c =
    let t = c.self.inside in
    let item = item_of c.args.item.now in
    let position = t.position + c.span-span.result in
    let put = c.put.new.self in
    let failed = c.is_err-self-inside.result in
    let left = sink_tape put.writer t.size position failed t.stalled in (
      subst (λ l. WritesOn g.W.Write.contents c.args.self.now l left) (sym (lent_is c.args.item.now))
          (subst (λ s. WritesOn g.W.Write.contents s (item ∷ []) left) c.self.view_is
          (writes_record g.W.Write.contents t.tape.writer t.size t.position position t.stalled item put.writer t.failed failed put.sent c.put.result c.if-self.false c.is_err-self-inside.ensures.value
          (subst (λ n. Appends (g.W.Write.contents t.tape.writer) (g.W.Write.contents put.writer) (take put.sent (item_bytes n item))) c.self.invariant.1 c.put.ensures.bytes) c.put.ensures.all_sent c.put.ensures.not_all_sent)),
      tt,
    )
