use Rattle.std.proofs.Common.{◌≡◌, drop}
use Rattle.rb_ledger.specs.inner.BindingLoops.{numbered_from}
use Rattle.rb_ledger.proofs.bound_chapters.are_numbered_upward.Given as goal

abbrev pub invariant-loop-chapter : goal.invariant-loop-chapter
invariant-loop-chapter l = (l.next ≡ l.chapter-index) × (numbered_from 0 l.chapters ≡ numbered_from l.next (drop l.chapter-index l.chapters))
