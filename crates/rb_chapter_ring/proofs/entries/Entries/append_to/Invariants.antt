use Rattle.std.proofs.Common.{◌≡◌, ◌++◌}
use Rattle.rb_chapter_ring.proofs.entries.Entries.append_to.Given as goal

-- the history so far and the entries that are left are those that it had and those that there were
abbrev pub invariant-loop-entry : goal.invariant-loop-entry
invariant-loop-entry l = l.history.items ++ l.entry-iterator ≡ l.fn.history.items ++ l.fn.self
