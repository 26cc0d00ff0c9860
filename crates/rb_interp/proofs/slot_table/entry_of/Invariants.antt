use Rattle.std.proofs.Common.{◌≡◌, drop, find}
use Rattle.rb_interp.specs.inner.SlotTable.{entry_has_id}
use Rattle.rb_interp.proofs.slot_table.entry_of.Given as goal

abbrev pub invariant-loop-entry : goal.invariant-loop-entry
invariant-loop-entry l = find (entry_has_id l.id) (drop l.entry-index l.entries) ≡ find (entry_has_id l.id) l.entries
