use Rattle.rb_source.proofs.Steps.{gives_none, no_step}
use Rattle.rb_source.proofs.framed_reader.FramedReader.end.Goals as goal

pub returns-in-Some-Frame-clause-gave : goal.returns-in-Some-Frame-clause-gave
returns-in-Some-Frame-clause-gave g c = gives_none g.R.Read.remaining c.args.self.now c.args.self.now c.args.piece.now (no_step g.R.Read.remaining c.args.self.now)
