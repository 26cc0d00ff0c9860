use Rattle.rb_interp.proofs.Laws.{slot_shows}
use Rattle.rb_interp.proofs.memory_laws.a_slot_shows_what_it_holds.Goals as goal

pub returns : goal.returns
returns g c = slot_shows g.C.Context.shown g.R.Lent.bytes_of
