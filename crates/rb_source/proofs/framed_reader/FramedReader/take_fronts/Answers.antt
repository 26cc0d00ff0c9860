use Rattle.std.proofs.Common.{◌≡◌, Bool, true, subst}
use Rattle.rb_source.specs.inner.Steps.{OnFront}
use Rattle.rb_source.proofs.Steps.{appends_both, gives_none, no_step, same_len}
use Rattle.rb_source.proofs.framed_reader.FramedReader.take_fronts.Goals as goal

pub portions-init : goal.portions-init
portions-init g c = record {
  open_yet = c.requires.open;
  short = c.requires.short;
  size = c.requires.size;
  room = c.requires.room;
  gave = gives_none g.R.Read.remaining c.args.self.now c.args.self.now c.args.piece.now (no_step g.R.Read.remaining c.args.self.now);
}

pub portions-preserved : goal.portions-preserved
portions-preserved g c =
    let old = c.portions.invariant in
    let left : OnFront true c.portions.self c.take_front.new.self c.take_front.new.piece = subst (λ (b : Bool). OnFront b c.portions.self c.take_front.new.self c.take_front.new.piece) c.portions-test.true c.take_front.ensures.left in
    record {
      open_yet = left.0;
      short = c.take_front.ensures.short;
      size = same_len g.R.Read.remaining c.portions.self c.take_front.new.self c.portions.piece c.take_front.new.piece c.take_front.ensures.gave old.size;
      room = left.2;
      gave = appends_both g.R.Read.remaining c.args.self.now c.portions.self c.take_front.new.self c.args.piece.now c.portions.piece c.take_front.new.piece old.open_yet old.gave c.take_front.ensures.gave;
    }

pub returns-clause-gave : goal.returns-clause-gave
returns-clause-gave g c = appends_both g.R.Read.remaining c.args.self.now c.portions.self c.take_front.new.self c.args.piece.now c.portions.piece c.take_front.new.piece c.portions.invariant.open_yet c.portions.invariant.gave c.take_front.ensures.gave
