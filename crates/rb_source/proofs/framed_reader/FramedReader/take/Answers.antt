use Rattle.std.proofs.Common.{Bool, true, subst}
use Rattle.rb_source.specs.inner.Steps.{OnPass}
use Rattle.rb_source.proofs.Steps.{appends_both}
use Rattle.rb_source.proofs.framed_reader.FramedReader.take.Goals as goal

pub returns-then-pass_frame-clause-gave : goal.returns-then-pass_frame-clause-gave
returns-then-pass_frame-clause-gave g c =
    let left : OnPass true c.args.self.now c.pass_frame.new.self c.args.piece.now c.pass_frame.new.piece = subst (λ (b : Bool). OnPass b c.args.self.now c.pass_frame.new.self c.args.piece.now c.pass_frame.new.piece) c.if-pass_frame.true c.pass_frame.ensures.passed in
    appends_both g.R.Read.remaining c.args.self.now c.pass_frame.new.self c.take_after_long-then-pass_frame.new.self c.args.piece.now c.pass_frame.new.piece c.take_after_long-then-pass_frame.new.piece left.0 c.pass_frame.ensures.gave c.take_after_long-then-pass_frame.ensures.gave

pub returns-then-pass_line-clause-gave : goal.returns-then-pass_line-clause-gave
returns-then-pass_line-clause-gave g c =
    let left : OnPass true c.args.self.now c.pass_line.new.self c.args.piece.now c.pass_line.new.piece = subst (λ (b : Bool). OnPass b c.args.self.now c.pass_line.new.self c.args.piece.now c.pass_line.new.piece) c.if-pass_line.true c.pass_line.ensures.passed in
    appends_both g.R.Read.remaining c.args.self.now c.pass_line.new.self c.take_after_long-then-pass_line.new.self c.args.piece.now c.pass_line.new.piece c.take_after_long-then-pass_line.new.piece left.0 c.pass_line.ensures.gave c.take_after_long-then-pass_line.ensures.gave
