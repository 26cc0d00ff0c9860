use Rattle.std.proofs.Common.{◌+◌, ap, ◌∙◌, sym, subst, not}
use Rattle.std.specs.Io.KnownBytes.{Appends}
use Rattle.rb_history.specs.TapeBytes.{tape, IsItemAt, end_of}
use Rattle.rb_tape.specs.Items.{item_of, tape_items, sent_after}
use Rattle.rb_tape.proofs.ItemsPut.{none-put, next-stands, next-stays, one-more, stops-within, all-whole, puts-within, puts-whole, on-ok, on-err, moved-on, stayed}
use Rattle.rb_tape.proofs.tape_writer.TapeWriter.put_all.Goals as goal

pub loop-item-init : goal.loop-item-init
loop-item-init g c = record { finished = c.requires.finished; so_far = none-put _ _ _ _ c.requires.stand }

pub put-requires-clause-finished : goal.put-requires-clause-finished
put-requires-clause-finished g c = c.loop-item.invariant.finished

pub put-requires-clause-stands : goal.put-requires-clause-stands
put-requires-clause-stands g c =
    let so_far = c.loop-item.invariant.so_far in
    subst (λ s. IsItemAt s c.loop-item.self.position (item_of c.in-Some.item)) (sym so_far.size_same) (next-stands _ _ _ _ _ _ _ _ so_far c.in-Some.ensures.steps).0

pub returns-then-is_err-clause-stops : goal.returns-then-is_err-clause-stops
returns-then-is_err-clause-stops g c =
    let p = c.put.ensures in
    stops-within _ _ _ _ _ _ _ _ _ c.loop-item.invariant.so_far c.in-Some.ensures.steps p.bytes (stayed _ _ _ _ _ p.position c.is_err.ensures.negation c.if-is_err.true)

pub returns-then-is_err-clause-not_all_sent : goal.returns-then-is_err-clause-not_all_sent
returns-then-is_err-clause-not_all_sent g c = on-err _ _ _ c.put.ensures.not_all_sent c.is_err.ensures.value c.if-is_err.true

pub returns-then-is_err-clause-stands : goal.returns-then-is_err-clause-stands
returns-then-is_err-clause-stands g c =
    let p = c.put.ensures in
    (next-stays _ _ _ _ _ c.put.new.self _ _ _ c.loop-item.invariant.so_far c.in-Some.ensures.steps p.size (stayed _ _ _ _ _ p.position c.is_err.ensures.negation c.if-is_err.true)).0

pub returns-then-is_err-clause-rest : goal.returns-then-is_err-clause-rest
returns-then-is_err-clause-rest g c =
    let p = c.put.ensures in
    (next-stays _ _ _ _ _ c.put.new.self _ _ _ c.loop-item.invariant.so_far c.in-Some.ensures.steps p.size (stayed _ _ _ _ _ p.position c.is_err.ensures.negation c.if-is_err.true)).1

pub returns-then-is_err-clause-size : goal.returns-then-is_err-clause-size
returns-then-is_err-clause-size g c = c.put.ensures.size ∙ c.loop-item.invariant.so_far.size_same

pub loop-item-preserved : goal.loop-item-preserved
loop-item-preserved g c =
    let p = c.put.ensures in
    record {
      finished = p.call.finished (c.is_err.ensures.negation ∙ ap not c.if-is_err.false);
      so_far = one-more _ _ _ _ _ _ _ _ _ c.loop-item.invariant.so_far c.in-Some.ensures.steps p.bytes
          (on-ok _ _ _ p.all_sent c.is_err.ensures.value c.if-is_err.false) p.size (moved-on _ _ _ _ _ p.position c.is_err.ensures.negation c.if-is_err.false) p.call.begins
          (moved-on _ _ _ _ _ p.failures c.is_err.ensures.negation c.if-is_err.false);
    }

pub returns-clause-bytes : goal.returns-clause-bytes
returns-clause-bytes g c =
    let i = c.loop-item.invariant.so_far in
    subst (λ x. Appends (g.W.Write.contents c.args.self.now.writer) (g.W.Write.contents c.loop-item.self.writer) (tape c.args.self.now.size (tape_items x)))
    (all-whole _ _ _ _ _ _ i c.in_default.ensures.steps.0) i.bytes

pub returns-clause-position : goal.returns-clause-position
returns-clause-position g c =
    let i = c.loop-item.invariant.so_far in
    i.position_is ∙ ap (λ x. end_of c.args.self.now.position (tape_items x)) (all-whole _ _ _ _ _ _ i c.in_default.ensures.steps.0)

pub returns-clause-sent : goal.returns-clause-sent
returns-clause-sent g c =
    let i = c.loop-item.invariant.so_far in
    i.sent_is ∙ ap (λ x. sent_after c.args.self.now.sent (tape_items x)) (all-whole _ _ _ _ _ _ i c.in_default.ensures.steps.0)

pub returns-clause-finished : goal.returns-clause-finished
returns-clause-finished g c = c.loop-item.invariant.finished

pub returns-then-is_err-clause-call : goal.returns-then-is_err-clause-call
returns-then-is_err-clause-call g c =
    puts-within _ _ _ _ _ _ _ _ _ c.loop-item.invariant.so_far c.in-Some.ensures.steps c.requires.finished c.put.ensures.call
    (stayed _ _ _ _ _ c.put.ensures.failures c.is_err.ensures.negation c.if-is_err.true)

pub returns-clause-call : goal.returns-clause-call
returns-clause-call g c =
    puts-whole _ _ _ _ _ _ _ c.loop-item.invariant.so_far c.in_default.ensures.steps.0 c.in_default.ensures.steps.1 c.requires.finished c.loop-item.invariant.finished

pub returns-clause-size : goal.returns-clause-size
returns-clause-size g c = c.loop-item.invariant.so_far.size_same

pub returns-then-is_err-clause-failures : goal.returns-then-is_err-clause-failures
returns-then-is_err-clause-failures g c =
    stayed _ _ _ _ _ c.put.ensures.failures c.is_err.ensures.negation c.if-is_err.true ∙ ap (λ n. n + 1) c.loop-item.invariant.so_far.none_failed

pub returns-clause-failures : goal.returns-clause-failures
returns-clause-failures g c = c.loop-item.invariant.so_far.none_failed
