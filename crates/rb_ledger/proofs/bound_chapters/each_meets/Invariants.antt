use Rattle.std.proofs.Common.{◌↔◌, [], ◌∷◌, ◌++◌, drop}
use Rattle.rb_ledger.specs.inner.BindingLoops.{EachMeets}
use Rattle.rb_ledger.proofs.bound_chapters.each_meets.Given as goal

abbrev pub invariant-loop-next : goal.invariant-loop-next
invariant-loop-next l = EachMeets l.first (l.rest ++ l.last ∷ []) ↔ EachMeets l.earlier (drop l.next-index l.rest ++ l.last ∷ [])
