use Rattle.rb_interp.proofs.Laws.{write_shows}
use Rattle.rb_interp.proofs.memory_laws.a_write_shows.Goals as goal

pub returns : goal.returns
returns g c = write_shows g.C.Context.shown g.R.Lent.bytes_of g.R.Lent.with_bytes g.met.R.Lent.rewritten
