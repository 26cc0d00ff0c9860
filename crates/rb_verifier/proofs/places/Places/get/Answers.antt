use Rattle.std.proofs.Common.{subst, ◌<◌, ◌-◌, ◌+◌, ◌≤◌, ◌∙◌, ap, sym, length, arith}
use Rattle.std.proofs.lemmas.List.{get_or_default}
use Rattle.rb_verifier.specs.declared.value.Abs.TheVariants.{Number}
use Rattle.rb_verifier.specs.KeptPointers.{IsPlaceValue, known_in}
use Rattle.rb_verifier.proofs.KeptPlaces.{known_there, known_unlisted, known_beyond}
use Rattle.rb_verifier.proofs.PlaceValues.{value_kept}
use Rattle.rb_verifier.proofs.places.Places.get.Goals as goal

pub returns-then-place-gt-LAST_PLACE-clause-known : goal.returns-then-place-gt-LAST_PLACE-clause-known
returns-then-place-gt-LAST_PLACE-clause-known c = sym (known_beyond c.self.inside.items.items c.args.place (omega arith)) ∙ ap (λ places. known_in places c.args.place) c.self.view_is

pub returns-then-index-count-clause-known : goal.returns-then-index-count-clause-known
returns-then-index-count-clause-known c =
    let inside : 63 - c.args.place < length c.self.inside.items.items = omega (arith, c.len-count.ensures) in
    c.index.ensures ∙ get_or_default c.self.inside.items.items (63 - c.args.place) c.index.result.now Number inside
    ∙ sym (known_there c.self.inside.items.items c.args.place (omega arith)) ∙ ap (λ places. known_in places c.args.place) c.self.view_is

pub returns-else-index-count-clause-known : goal.returns-else-index-count-clause-known
returns-else-index-count-clause-known c =
    let past : length c.self.inside.items.items + c.args.place ≤ 63 = omega (arith, c.len-count.ensures) in
    sym (known_unlisted c.self.inside.items.items c.args.place past) ∙ ap (λ places. known_in places c.args.place) c.self.view_is

pub returns-then-index-count-clause-value : goal.returns-then-index-count-clause-value
returns-then-index-count-clause-value c =
    let inside : 63 - c.args.place < length c.self.inside.items.items = omega (arith, c.len-count.ensures) in
    subst IsPlaceValue (sym (c.index.ensures ∙ get_or_default c.self.inside.items.items (63 - c.args.place) c.index.result.now Number inside)) (value_kept c.self.inside.items.items (63 - c.args.place) c.self.invariant inside)
