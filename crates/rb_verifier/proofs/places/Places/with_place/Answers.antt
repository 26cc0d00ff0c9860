use Rattle.std.proofs.Common.{◌≡◌, ◌≢◌, ◌+◌, [], ◌∷◌, length, ◌∙◌, ap, sym, subst, arith, length-append}
use Rattle.rb_verifier.specs.KeptPointers.{IsPlaceValue, known_in, with_place}
use Rattle.rb_verifier.proofs.KeptPlaces.{AreBuilt, built_more, built_list, with_place-other}
use Rattle.rb_verifier.proofs.PlaceValues.{kept_built}
use Rattle.rb_verifier.proofs.places.Places.with_place.Goals as goal

pub loop-i-preserved : goal.loop-i-preserved
loop-i-preserved c = record {
  count = ap length c.in_ok-push.ensures.items ∙ length-append c.loop-i.items.items (c.value_after_set.result ∷ []) ∙ ap (λ n. n + 1) c.loop-i.invariant.count;
  built = subst (λ zs. AreBuilt (λ place x. x ≡ with_place c.args.place c.args.value (known_in c.args.self.now) place) zs (c.loop-i.i + 1)) (sym c.in_ok-push.ensures.items)
      (built_more (λ place x. x ≡ with_place c.args.place c.args.value (known_in c.args.self.now) place) c.loop-i.items.items c.loop-i.i c.value_after_set.result c.loop-i.invariant.count c.loop-i.invariant.built c.value_after_set.ensures.known);
  values = subst (λ zs. AreBuilt (λ place x. IsPlaceValue x) zs (c.loop-i.i + 1)) (sym c.in_ok-push.ensures.items)
      (built_more (λ place x. IsPlaceValue x) c.loop-i.items.items c.loop-i.i c.value_after_set.result c.loop-i.invariant.count c.loop-i.invariant.values c.value_after_set.ensures.value);
}

pub returns : goal.returns
returns c =
    built_list (with_place c.args.place c.args.value (known_in c.args.self.now)) c.loop-i.items.items c.loop-i.i c.loop-i.invariant.count c.loop-i.invariant.built
    (λ place le past. let ne : place ≢ c.args.place = omega arith in with_place-other c.args.place c.args.value (known_in c.args.self.now) place ne ∙ c.count.ensures.others place (omega arith))

pub invariant_of-result : goal.invariant_of-result
invariant_of-result c = kept_built c.loop-i.items.items c.loop-i.i c.loop-i.invariant.count (omega (arith, c.loop-i.invariant.count, c.count.ensures.few)) c.loop-i.invariant.values
