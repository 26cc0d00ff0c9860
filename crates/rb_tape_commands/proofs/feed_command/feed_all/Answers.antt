use Rattle.std.proofs.Common.{◌≡◌, ◌+◌, ◌∷◌, ◌++◌, [], length, Ok, Err, ap, sym, ◌∙◌, subst, arith}
use Rattle.std.proofs.lemmas.Result.{err_from_is_err_and}
use Rattle.std.proofs.lemmas.List.{length_push}
use Rattle.std.specs.Io.KnownBytes.{Appends}
use Rattle.rb_chapter_ring.specs.Chapters.{Chapter}
use Rattle.rb_history.specs.Span.{span}
use Rattle.rb_history.specs.TapeBytes.{IsItemAt, item_bytes}
use Rattle.rb_history.specs.TapeBytes.Item.{Event}
use Rattle.rb_tape_commands.specs.inner.PayloadSteps.{FeedsOne}
use Rattle.rb_tape_commands.proofs.ChapterPass.{goes_on, spare_stays}
use Rattle.rb_tape_commands.proofs.Feeding.{fed_next, fed_one, passes_kept, passes_more, end_of-push}
use Rattle.rb_tape_commands.proofs.TapeCallRuns.{calls_on, none_gave_up, ok_not_device}
use Rattle.rb_tape_commands.proofs.feed_command.feed_all.Goals as goal

pub returns-in_err-payload-clause-fed : goal.returns-in_err-payload-clause-fed
returns-in_err-payload-clause-fed g c =
    let p = err_from_is_err_and c.from_residual.result c.from_residual.ensures.1 in
    let i = c.loop-payload.invariant.passed in
    let so_far = passes_kept c.args.size c.args.tape.now.position _ _ _ _ i.0 i.1 _ c.next_payload.ensures.same.kept in
    rw (p.1, p.2) (fed_next c.args.size c.args.tape.now.position _ _ _ _ i.0 so_far _ c.loop-payload.number i.2 c.in_err-payload.field-0.0 c.in_err-payload.ensures.found)

pub returns-in_err-payload-clause-calls : goal.returns-in_err-payload-clause-calls
returns-in_err-payload-clause-calls g c = calls_on g.W.Write.contents _ _ _ c.loop-payload.invariant.calls c.next_payload.ensures.same.calls

pub returns-clause-calls : goal.returns-clause-calls
returns-clause-calls g c = calls_on g.W.Write.contents _ _ _ c.loop-payload.invariant.calls c.next_payload.ensures.same.calls

pub feed_one-requires-clause-all_taken : goal.feed_one-requires-clause-all_taken
feed_one-requires-clause-all_taken g c =
    let turned = goes_on c.loop-payload.ring.state.ring c.make_chapter_room.new.ring.state.ring c.make_chapter_room.ensures.turned in
    turned.producer_same ∙ c.loop-payload.invariant.all_taken ∙ sym turned.consumer_same

pub returns-in_err-spare-clause-fed : goal.returns-in_err-spare-clause-fed
returns-in_err-spare-clause-fed g c =
    let p = err_from_is_err_and c.from_residual-in_err-spare.result c.from_residual-in_err-spare.ensures.1 in
    let i = c.loop-payload.invariant.passed in
    let bound = c.requires.size.2 in
    let tape = c.next_payload.new.tape in
    let same = c.next_payload.ensures.same in
    let so_far = passes_kept c.args.size c.args.tape.now.position _ _ _ _ i.0 i.1 _ same.kept in
    rw (p.1, p.2) (fed_one c.args.size c.args.tape.now.position _ _ _ _ i.0 so_far _ _ c.loop-payload.number tape.position c.in-Some.payload i.2 (same.position_same ∙ i.3) (omega arith) (rw c.in-Some.is at c.in_ok-payload.ensures.found) c.in_err-spare.field-0.0
    (subst (λ n. FeedsOne n tape.position c.loop-payload.number c.in-Some.payload (g.W.Write.contents tape.writer) (g.W.Write.contents c.feed_one.new.tape.writer) (Err c.in_err-spare.field-0.0)) (same.size_same ∙ c.loop-payload.invariant.size) c.in_err-spare.ensures.fed))

pub loop-payload-preserved : goal.loop-payload-preserved
loop-payload-preserved g c =
    let l = c.loop-payload.invariant in
    let i = l.passed in
    let one = c.feed_one.ensures in
    let done = c.in_ok-spare.ensures in
    let tape = c.next_payload.new.tape in
    let same = c.next_payload.ensures.same in
    let so_far = passes_kept c.args.size c.args.tape.now.position _ _ _ _ i.0 i.1 _ same.kept in
    let found = rw c.in-Some.is at c.in_ok-payload.ensures.found in
    let payload = c.in-Some.payload in
    let fed = subst (λ n. FeedsOne n tape.position c.loop-payload.number payload (g.W.Write.contents tape.writer) (g.W.Write.contents c.feed_one.new.tape.writer) (Ok c.in_ok-spare.spare)) (same.size_same ∙ l.size) done.fed in
    let moved = done.moves_on in
    let turned = goes_on c.loop-payload.ring.state.ring c.make_chapter_room.new.ring.state.ring c.make_chapter_room.ensures.turned in
    let chapter_same = moved.same_chapter in
    let at : c.feed_one.new.tape.position ≡ c.loop-payload.tape.position + span (length payload) = done.position ∙ ap (λ n. n + span (length payload)) same.position_same in
    let item = fed.0 in
    let there = same.position_same ∙ i.3 in
    let item_there = subst (λ q. IsItemAt c.args.size q (Event q payload)) there fed.0 in
    let wrote_there = subst (λ q. Appends (g.W.Write.contents tape.writer) (g.W.Write.contents c.feed_one.new.tape.writer) (item_bytes c.args.size (Event q payload))) there fed.1 in
    let count = length_push i.0 payload in
    let each = none_gave_up _ _ _ _ c.next_payload.ensures.counted c.in_ok-payload.ensures.gave_up (ok_not_device _) in
    record {
      size = one.size ∙ same.size_same ∙ l.size;
      finished = done.finished (ok_not_device c.in_ok-spare.spare);
      calls = calls_on g.W.Write.contents _ _ _ (calls_on g.W.Write.contents _ _ _ l.calls same.calls) one.calls;
      counted = omega (arith, l.counted, each, done.each_failure_takes_one (ok_not_device c.in_ok-spare.spare));
      setup = ap (λ (h : Chapter). h.opening.setup) chapter_same ∙ turned.setup_same ∙ l.setup;
      spare = spare_stays c.make_chapter_room.new.ring.state.ring c.feed_one.new.ring.state.ring c.make_chapter_room.new.spare chapter_same c.make_chapter_room.ensures.spare;
      numbered = omega (arith, l.numbered, turned.numbered, ap (λ (h : Chapter). h.number) chapter_same);
      all_taken = moved.all_taken;
      position = at ∙ ap (λ n. n + span (length payload)) (l.position ∙ sym turned.producer_same) ∙ sym moved.producer_is;
      low = omega (arith, l.low, at);
      high = omega (arith, item.bounded, done.position);
      passed = (i.0 ++ payload ∷ [], passes_more c.args.size c.args.tape.now.position _ _ _ _ i.0 so_far _ _ payload found.read item_there wrote_there, omega (arith, i.2, count), at ∙ ap (λ q. q + span (length payload)) i.3 ∙ sym (end_of-push c.args.tape.now.position i.0 payload));
    }

pub returns-in_err-spare-clause-calls : goal.returns-in_err-spare-clause-calls
returns-in_err-spare-clause-calls g c =
    calls_on g.W.Write.contents _ _ _ (calls_on g.W.Write.contents _ _ _ c.loop-payload.invariant.calls c.next_payload.ensures.same.calls) c.feed_one.ensures.calls
