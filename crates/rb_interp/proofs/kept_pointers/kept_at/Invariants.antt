use Rattle.std.proofs.Common.{◌≡◌, drop}
use Rattle.rb_semantics.specs.StackPointers.{pointer_at}
use Rattle.rb_interp.specs.inner.KeptPointers.{pointers_of}
use Rattle.rb_interp.proofs.kept_pointers.kept_at.Given as goal

abbrev pub invariant-loop-entry : goal.invariant-loop-entry
invariant-loop-entry l = pointer_at l.place (pointers_of (drop l.entry-index l.entries)) ≡ pointer_at l.place (pointers_of l.entries)
