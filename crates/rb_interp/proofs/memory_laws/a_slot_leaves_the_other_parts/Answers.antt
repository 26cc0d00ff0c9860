use Rattle.rb_interp.proofs.Laws.{slot_leaves_others}
use Rattle.rb_interp.proofs.memory_laws.a_slot_leaves_the_other_parts.Goals as goal

pub returns : goal.returns
returns g c = slot_leaves_others g.C.Context.shown g.R.Lent.bytes_of
