use Rattle.std.proofs.Common.{◌<◌, ◌∙◌, length, get_or, ap, sym, subst}
use Rattle.rb_verifier.specs.declared.value.Abs.TheVariants.{Number}
use Rattle.rb_verifier.proofs.KeptPlaces.{all-data, one-pointer}
use Rattle.rb_verifier.proofs.PlaceValues.{few_kept}
use Rattle.rb_verifier.proofs.places.Places.have_data.Goals as goal

pub returns-clause-all : goal.returns-clause-all
returns-clause-all c = λ t. sym c.self.view_is ∙ all-data c.self.inside.items.items (λ k. ap (λ l. get_or l k Number) (sym c.as_slice.ensures.value) ∙ c.are_numbers.ensures.all t k)

pub returns-clause-pointer : goal.returns-clause-pointer
returns-clause-pointer c =
    λ f e. let other = c.are_numbers.ensures.other f in
    one-pointer c.self.inside.items.items other.0 (subst (λ l. other.0 < length l) c.as_slice.ensures.value other.1) (few_kept c.self.inside.items.items c.self.invariant) (λ n. other.2 (ap (λ l. get_or l other.0 Number) c.as_slice.ensures.value ∙ n)) (c.self.view_is ∙ e)
