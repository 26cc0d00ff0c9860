use Rattle.std.proofs.Common.{◌≡◌, drop}
use Rattle.rb_semantics.specs.StackPointers.{is_pointer_among}
use Rattle.rb_interp.specs.inner.KeptPointers.{pointers_of}
use Rattle.rb_interp.proofs.kept_pointers.first_touched.Given as goal

abbrev pub invariant-loop-i : goal.invariant-loop-i
invariant-loop-i l = is_pointer_among l.at l.len (pointers_of (drop l.i l.entries)) ≡ is_pointer_among l.at l.len (pointers_of l.entries)
