use Rattle.std.proofs.Common.{◌≡◌, ℕ, List, [], true, false, sym, ap, ◌∙◌, subst}
use Rattle.rb_source.specs.Piece.{PieceContents}
use Rattle.rb_source.specs.Stream.{FramedInput, Gives}
use Rattle.rb_source.specs.StreamLaws.{gives_nothing}
use Rattle.rb_source.proofs.Steps.{gives_all}
use Rattle.rb_source.proofs.framed_reader.FramedReaderSource.fill.Goals as goal

pub returns-then-self-clause-gave : goal.returns-then-self-clause-gave
returns-then-self-clause-gave g c =
    let none : c.args.piece.now.contexts ≡ [] = ap (λ (p : PieceContents). p.contexts) c.requires.empty in
    subst (λ (l : List (List ℕ)). Gives g.R.Read.remaining c.args.self.now l c.args.self.now) (sym none) (gives_nothing g.R.Read.remaining c.args.self.now)

pub returns-clause-gave : goal.returns-clause-gave
returns-clause-gave g c =
    let open_yet : c.args.self.now.over ≡ false = ap (λ (s : FramedInput g.row.R.Denot). s.over) (sym c.self.view_is) ∙ c.if-self.false in
    gives_all g.R.Read.remaining c.args.self.now c.fill_open.new.self c.args.piece.now c.fill_open.new.piece open_yet (ap (λ (p : PieceContents). p.contexts) c.requires.empty) c.fill_open.ensures.gave c.fill_open.ensures.over
