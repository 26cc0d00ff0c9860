use Rattle.std.proofs.Common.{rules}
use Rattle.arrayvec.proofs.ArrayVecLemmas.{filter-from_retain}
use Rattle.rb_interp.specs.inner.SlotTable.{other_entry_than}
use Rattle.rb_interp.proofs.slot_table.remove_entries.Goals as goal

pub returns : goal.returns
returns c = filter-from_retain _ (other_entry_than c.args.id) _ (λ x b f' y k. search rules) _ _ c.retain.ensures.filtered
