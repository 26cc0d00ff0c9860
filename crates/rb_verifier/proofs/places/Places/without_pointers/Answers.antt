use Rattle.std.proofs.Common.{subst, sym}
use Rattle.rb_verifier.specs.inner.KeptList.{IsKeptList}
use Rattle.rb_verifier.proofs.PlaceValues.{none_kept}
use Rattle.rb_verifier.proofs.places.Places.without_pointers.Goals as goal

pub invariant_of-result : goal.invariant_of-result
invariant_of-result c = subst IsKeptList (sym c.new.ensures.items) none_kept
