use Rattle.rb_interp.proofs.Laws.{write_leaves_others}
use Rattle.rb_interp.proofs.memory_laws.a_write_leaves_the_other_parts.Goals as goal

pub returns : goal.returns
returns g c = write_leaves_others g.C.Context.shown g.R.Lent.bytes_of g.R.Lent.with_bytes g.met.R.Lent.rewritten
