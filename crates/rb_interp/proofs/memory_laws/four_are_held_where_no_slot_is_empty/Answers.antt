use Rattle.rb_interp.proofs.Laws.{lowest_is_empty, none_is_full}
use Rattle.rb_interp.proofs.memory_laws.four_are_held_where_no_slot_is_empty.Goals as goal

pub returns : goal.returns
returns g c = record { empty = lowest_is_empty g.row.R.Denot; full = none_is_full g.row.R.Denot }
