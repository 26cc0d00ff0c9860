use Rattle.std.proofs.Common.{◌≡◌, true, ap, ◌∙◌, subst}
use Rattle.rb_source.specs.Form.{IsForm}
use Rattle.rb_source.specs.Stream.{FramedInput}
use Rattle.rb_source.proofs.Steps.{line_last}
use Rattle.rb_source.proofs.framed_reader.FramedReader.end_line.Goals as goal

pub returns-then-is_empty-clause-gave : goal.returns-then-is_empty-clause-gave
returns-then-is_empty-clause-gave g c =
    let S = FramedInput g.row.R.Denot in
    let end = c.self.inside in
    let made : S = record { reader = end.reader; framing = end.framing; form = end.form; rest = end.window; long = end.long; kept = end.kept.items; counts = end.counts; over = true } in
    line_last g.R.Read.remaining c.args.self.now made c.args.total c.args.piece.now c.finish_long.new.piece c.requires.long c.requires.rest
    (subst (λ (s : S). IsForm s.form) (c.self.view_is ∙ c.finish_long.ensures.finished) c.self.invariant.lawful)
    (ap (λ (s : S). record s { over = true }) (c.self.view_is ∙ c.finish_long.ensures.finished)) c.finish_long.ensures.given

pub returns-clause-gave : goal.returns-clause-gave
returns-clause-gave g c =
    let S = FramedInput g.row.R.Denot in
    let end = c.self.inside in
    let made : S = record { reader = end.reader; framing = end.framing; form = end.form; rest = end.window; long = end.long; kept = end.kept.items; counts = end.counts; over = true } in
    line_last g.R.Read.remaining c.args.self.now made c.args.total c.args.piece.now c.finish_long.new.piece c.requires.long c.requires.rest
    (subst (λ (s : S). IsForm s.form) (c.self.view_is ∙ c.finish_long.ensures.finished) c.self.invariant.lawful)
    (ap (λ (s : S). record s { over = true }) (c.self.view_is ∙ c.finish_long.ensures.finished)) c.finish_long.ensures.given
