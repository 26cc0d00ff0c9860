use Rattle.std.proofs.Common.{◌≡◌, filter, length}
use Rattle.rb_interp.specs.inner.KeptPointers.{entry_left}
use Rattle.rb_interp.proofs.kept_pointers.remove_each_touched.Given as goal

abbrev pub invariant-loop-i : goal.invariant-loop-i
invariant-loop-i l = filter (entry_left l.at l.len) l.entries.items ≡ filter (entry_left l.at l.len) l.initial.entries.items

abbrev pub decreases-loop-i : goal.decreases-loop-i
decreases-loop-i l = length l.entries.items
