use Rattle.std.proofs.Common.{◌≡◌, ◌+◌, [], ◌∷◌, length, ◌∙◌, ap, sym, subst, arith, length-append}
use Rattle.rb_verifier.specs.KeptPointers.{IsPlaceValue, known_in}
use Rattle.rb_verifier.specs.inner.ChangedValues.{place_after}
use Rattle.rb_verifier.proofs.KeptPlaces.{AreBuilt, built_more, built_list, after_change-data, data_listed, known-data}
use Rattle.rb_verifier.proofs.PlaceValues.{kept_built, value_after}
use Rattle.rb_verifier.proofs.places.Places.changed.Goals as goal

pub loop-i-preserved : goal.loop-i-preserved
loop-i-preserved c = record {
  count = ap length c.in_ok-push.ensures.items ∙ length-append c.loop-i.items.items (c.changed_place.result ∷ []) ∙ ap (λ n. n + 1) c.loop-i.invariant.count;
  built = subst (λ zs. AreBuilt (λ place x. x ≡ place_after c.args.change (known_in c.args.self.now place)) zs (c.loop-i.i + 1)) (sym c.in_ok-push.ensures.items)
      (built_more (λ place x. x ≡ place_after c.args.change (known_in c.args.self.now place)) c.loop-i.items.items c.loop-i.i c.changed_place.result c.loop-i.invariant.count c.loop-i.invariant.built (c.changed_place.ensures ∙ ap (place_after c.args.change) c.get.ensures.known));
  values = subst (λ zs. AreBuilt (λ place x. IsPlaceValue x) zs (c.loop-i.i + 1)) (sym c.in_ok-push.ensures.items)
      (built_more (λ place x. IsPlaceValue x) c.loop-i.items.items c.loop-i.i c.changed_place.result c.loop-i.invariant.count c.loop-i.invariant.values (subst IsPlaceValue (sym c.changed_place.ensures) (value_after c.args.change c.get.result c.get.ensures.value)));
}

pub returns-clause-changed : goal.returns-clause-changed
returns-clause-changed c =
    built_list (λ place. place_after c.args.change (known_in c.args.self.now place)) c.loop-i.items.items c.loop-i.i c.loop-i.invariant.count c.loop-i.invariant.built
    (λ place le past. ap (place_after c.args.change) (c.count-i-end.ensures.others place (omega arith)) ∙ after_change-data c.args.change)

pub returns-then-have_data-clause-changed : goal.returns-then-have_data-clause-changed
returns-then-have_data-clause-changed c =
    c.without_pointers.ensures ∙ data_listed (λ place. place_after c.args.change (known_in c.args.self.now place)) (λ place. ap (place_after c.args.change) (known-data c.args.self.now (c.have_data.ensures.all c.if-have_data.true) place) ∙ after_change-data c.args.change)

pub invariant_of-result : goal.invariant_of-result
invariant_of-result c = kept_built c.loop-i.items.items c.loop-i.i c.loop-i.invariant.count (omega (arith, c.loop-i.invariant.count, c.count.ensures.few)) c.loop-i.invariant.values
