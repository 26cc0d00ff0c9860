use Rattle.std.proofs.Common.{◌≡◌, ◌≤◌, ◌<◌, ℕ, List, Bool, true, leb, length, sym, ap, ◌∙◌, arith}
use Rattle.rb_source.specs.Piece.{room_for}
use Rattle.std.proofs.lemmas.Bool.{leb-true}
use Rattle.rb_source.proofs.Steps.{gives_none, no_step}
use Rattle.rb_source.proofs.framed_reader.FramedReader.take_after_long.Goals as goal

pub returns-then-is_full-clause-gave : goal.returns-then-is_full-clause-gave
returns-then-is_full-clause-gave g c = gives_none g.R.Read.remaining c.args.self.now c.args.self.now c.args.piece.now (no_step g.R.Read.remaining c.args.self.now)

pub returns-then-is_full-clause-partial : goal.returns-then-is_full-clause-partial
returns-then-is_full-clause-partial g c = λ e _.
    let full : room_for c.args.piece.now.ctx_len ≤ length c.args.piece.now.contexts = leb-true _ _ (sym c.is_full.ensures.value ∙ c.if-is_full.true) in
    let none = ap length e in
    let some = c.is_full.ensures.some in
    absurd (omega arith)
