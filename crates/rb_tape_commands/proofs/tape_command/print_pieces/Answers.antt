use Rattle.std.proofs.Common.{◌≡◌, [], length, take, sym, ap, subst, arith, take_all}
use Rattle.std.proofs.lemmas.List.{nil_from_length}
use Rattle.std.proofs.lemmas.Result.{err_from_is_err_and}
use Rattle.std.specs.Io.KnownBytes.{Appends, Consumes}
use Rattle.std.proofs.KnownBytes.{Consumes-nil, Keeps-refl}
use Rattle.rb_tape.specs.TapeFront.{IsUndecided}
use Rattle.rb_tape.specs.TapeReading.{Reading}
use Rattle.rb_tape_commands.specs.inner.TapePrinting.{PrintsSoFar}
use Rattle.rb_tape_commands.proofs.TapeReads.{nothing_yet, nothing_shown, more_at_hand, piece_more, piece_added, answers_read, answers_memory, answers_end, whole_end, answers_gathered, answers_cut, went_on}
use Rattle.rb_tape_commands.proofs.tape_command.print_pieces.Goals as goal

pub pieces-init : goal.pieces-init
pieces-init g c =
    let size = c.args.feed.now.size in
    let start = c.args.feed.now.start in
    let fresh = sym c.requires.fresh in
    record {
      so_far = subst (PrintsSoFar c.args.form size start _ _ _ _) fresh (nothing_yet c.args.form size start _ _);
      undecided = subst (λ (r : Reading). IsUndecided size r.position r.rest) fresh (nothing_shown c.args.form size start);
    }

pub returns-in_default-clause-answer : goal.returns-in_default-clause-answer
returns-in_default-clause-answer g c =
    let more = more_at_hand c.args.form c.args.feed.now.size c.args.feed.now.start _ _ _ _ c.pieces.feed c.pieces.invariant.so_far _ _ c.await_more.ensures.read c.await_more.ensures.bytes in
    answers_read c.args.form c.args.feed.now.size c.args.feed.now.start c.requires.size _ _ _ _ c.pieces.feed more

pub returns-then-count-eq0-clause-answer : goal.returns-then-count-eq0-clause-answer
returns-then-count-eq0-clause-answer g c =
    let more = more_at_hand c.args.form c.args.feed.now.size c.args.feed.now.start _ _ _ _ c.pieces.feed c.pieces.invariant.so_far _ _ c.await_more.ensures.read c.await_more.ensures.bytes in
    let held = g.R.Incoming.held c.await_more.new.input in
    let none : held ≡ [] = nil_from_length held (omega (arith, c.min-count.ensures, c.if-count-eq0.true, ap length c.at_hand.ensures.value)) in
    answers_end c.args.form c.args.feed.now.size c.args.feed.now.start c.requires.size _ _ _ _ _ c.pieces.feed c.end_of_input.result more (Consumes-nil _) (c.in-Ok.ensures.end none) c.pieces.invariant.undecided c.end_of_input.ensures.ends

pub returns-then-count-eq0-clause-printed : goal.returns-then-count-eq0-clause-printed
returns-then-count-eq0-clause-printed g c =
    let more = more_at_hand c.args.form c.args.feed.now.size c.args.feed.now.start _ _ _ _ c.pieces.feed c.pieces.invariant.so_far _ _ c.await_more.ensures.read c.await_more.ensures.bytes in
    let held = g.R.Incoming.held c.await_more.new.input in
    let none : held ≡ [] = nil_from_length held (omega (arith, c.min-count.ensures, c.if-count-eq0.true, ap length c.at_hand.ensures.value)) in
    whole_end c.args.form c.args.feed.now.size c.args.feed.now.start _ _ _ _ c.pieces.feed c.end_of_input.result more (c.in-Ok.ensures.end none) c.end_of_input.ensures.ends

pub returns-then-is_err-clause-answer : goal.returns-then-is_err-clause-answer
returns-then-is_err-clause-answer g c =
    let more = more_at_hand c.args.form c.args.feed.now.size c.args.feed.now.start _ _ _ _ c.pieces.feed c.pieces.invariant.so_far _ _ c.await_more.ensures.read c.await_more.ensures.bytes in
    answers_memory c.args.form c.args.feed.now.size c.args.feed.now.start c.requires.size _ _ _ _ _ c.pieces.feed more (Keeps-refl _)

pub returns-clause-answer : goal.returns-clause-answer
returns-clause-answer g c = answers_read c.args.form c.args.feed.now.size c.args.feed.now.start c.requires.size _ _ _ _ c.pieces.feed c.pieces.invariant.so_far

pub returns-then-write_out-text-clause-answer : goal.returns-then-write_out-text-clause-answer
returns-then-write_out-text-clause-answer g c =
    let piece = take c.min-count.result c.at_hand-in-pieces.result.now in
    let more = more_at_hand c.args.form c.args.feed.now.size c.args.feed.now.start _ _ _ _ c.pieces.feed c.pieces.invariant.so_far _ _ c.await_more.ensures.read c.await_more.ensures.bytes in
    let added = piece_added c.args.form c.pieces.feed c.feed.new.self piece c.feed.result c.is_err.result c.feed.ensures.adds c.is_err.ensures.value c.if-is_err.false in
    let consumed = subst (λ held. Consumes (g.R.Incoming.remaining c.await_more.new.input) (g.R.Incoming.remaining c.consume.new.self) (take c.min-count.result held)) (sym c.at_hand-in-pieces.ensures.value) c.consume.ensures.bytes in
    let read = piece_more c.args.form c.args.feed.now.size c.args.feed.now.start _ _ _ _ c.pieces.feed more _ piece c.feed.new.self consumed added in
    let sent = c.write_out.result in
    let prints = subst (λ l. Appends (g.W.Write.contents c.await_more.new.out) (g.W.Write.contents c.write_out.new.writer) (take sent l)) c.text.ensures.value c.write_out.ensures.bytes in
    answers_cut c.args.form c.args.feed.now.size c.args.feed.now.start c.requires.size _ _ _ _ _ c.feed.new.self c.gather_lines-gathered.new.feed c.gather_lines-gathered.new.lines.text sent c.gather_lines-gathered.result read c.gather_lines-gathered.ensures.gathered prints

pub returns-in_err-gathered-clause-answer : goal.returns-in_err-gathered-clause-answer
returns-in_err-gathered-clause-answer g c =
    let piece = take c.min-count.result c.at_hand-in-pieces.result.now in
    let more = more_at_hand c.args.form c.args.feed.now.size c.args.feed.now.start _ _ _ _ c.pieces.feed c.pieces.invariant.so_far _ _ c.await_more.ensures.read c.await_more.ensures.bytes in
    let added = piece_added c.args.form c.pieces.feed c.feed.new.self piece c.feed.result c.is_err.result c.feed.ensures.adds c.is_err.ensures.value c.if-is_err.false in
    let consumed = subst (λ held. Consumes (g.R.Incoming.remaining c.await_more.new.input) (g.R.Incoming.remaining c.consume.new.self) (take c.min-count.result held)) (sym c.at_hand-in-pieces.ensures.value) c.consume.ensures.bytes in
    let read = piece_more c.args.form c.args.feed.now.size c.args.feed.now.start _ _ _ _ c.pieces.feed more _ piece c.feed.new.self consumed added in
    let lines = c.gather_lines-gathered.new.lines.text in
    let sent = c.write_out.result in
    let prints = subst (λ l. Appends (g.W.Write.contents c.await_more.new.out) (g.W.Write.contents c.write_out.new.writer) (take sent l)) c.text.ensures.value c.write_out.ensures.bytes in
    let whole = subst (Appends _ _) (take_all sent lines (omega (arith, c.if-write_out-text.false, ap length c.text.ensures.value, ap length c.text-in-pieces.ensures.value))) prints in
    let p = err_from_is_err_and c.from_residual.result c.from_residual.ensures.1 in
    rw (p.1, p.2) (answers_gathered c.args.form c.args.feed.now.size c.args.feed.now.start c.requires.size _ _ _ _ _ c.feed.new.self c.gather_lines-gathered.new.feed lines c.in_err-gathered.field-0.0 read c.in_err-gathered.ensures.gathered whole)

pub pieces-preserved : goal.pieces-preserved
pieces-preserved g c =
    let piece = take c.min-count.result c.at_hand-in-pieces.result.now in
    let more = more_at_hand c.args.form c.args.feed.now.size c.args.feed.now.start _ _ _ _ c.pieces.feed c.pieces.invariant.so_far _ _ c.await_more.ensures.read c.await_more.ensures.bytes in
    let added = piece_added c.args.form c.pieces.feed c.feed.new.self piece c.feed.result c.is_err.result c.feed.ensures.adds c.is_err.ensures.value c.if-is_err.false in
    let consumed = subst (λ held. Consumes (g.R.Incoming.remaining c.await_more.new.input) (g.R.Incoming.remaining c.consume.new.self) (take c.min-count.result held)) (sym c.at_hand-in-pieces.ensures.value) c.consume.ensures.bytes in
    let read = piece_more c.args.form c.args.feed.now.size c.args.feed.now.start _ _ _ _ c.pieces.feed more _ piece c.feed.new.self consumed added in
    let lines = c.gather_lines-gathered.new.lines.text in
    let sent = c.write_out.result in
    let prints = subst (λ l. Appends (g.W.Write.contents c.await_more.new.out) (g.W.Write.contents c.write_out.new.writer) (take sent l)) c.text.ensures.value c.write_out.ensures.bytes in
    let whole = subst (Appends _ _) (take_all sent lines (omega (arith, c.if-write_out-text.false, ap length c.text.ensures.value, ap length c.text-in-pieces.ensures.value))) prints in
    let gathered = c.in_ok-gathered.ensures.gathered in
    record {
      so_far = went_on c.args.form c.args.feed.now.size c.args.feed.now.start _ _ _ _ _ c.feed.new.self c.gather_lines-gathered.new.feed lines read whole gathered.0;
      undecided = gathered.1;
    }
