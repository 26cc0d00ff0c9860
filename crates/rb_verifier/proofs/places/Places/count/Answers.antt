use Rattle.std.proofs.Common.{◌∙◌, ap, sym, arith}
use Rattle.rb_verifier.specs.KeptPointers.{known_in}
use Rattle.rb_verifier.proofs.KeptPlaces.{known_unlisted}
use Rattle.rb_verifier.proofs.PlaceValues.{few_kept}
use Rattle.rb_verifier.proofs.places.Places.count.Goals as goal

pub returns-clause-others : goal.returns-clause-others
returns-clause-others c = λ place le. ap (λ places. known_in places place) (sym c.self.view_is) ∙ known_unlisted c.self.inside.items.items place (omega (arith, c.len.ensures))

pub returns-clause-few : goal.returns-clause-few
returns-clause-few c = omega (arith, c.len.ensures, few_kept c.self.inside.items.items c.self.invariant)
