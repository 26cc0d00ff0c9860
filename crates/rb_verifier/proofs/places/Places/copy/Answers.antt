use Rattle.std.proofs.Common.{◌∙◌, subst, sym}
use Rattle.rb_verifier.specs.inner.KeptList.{IsKeptList}
use Rattle.rb_verifier.proofs.places.Places.copy.Goals as goal

pub invariant_of-result : goal.invariant_of-result
invariant_of-result c = subst IsKeptList (sym (c.in_ok-items.ensures.items ∙ c.as_slice.ensures.value)) c.self.invariant
