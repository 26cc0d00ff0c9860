use Rattle.std.proofs.Common.{◌≡◌, ◌+◌, [], ◌∷◌, length, ◌∙◌, ap, sym, subst, arith, length-append}
use Rattle.rb_verifier.specs.KeptPointers.{IsPlaceValue, known_in, with_data}
use Rattle.rb_verifier.proofs.KeptPlaces.{AreBuilt, built_more, built_list, with_data-data, data_listed, known-data}
use Rattle.rb_verifier.proofs.PlaceValues.{kept_built}
use Rattle.rb_verifier.proofs.places.Places.with_data.Goals as goal

pub loop-i-preserved : goal.loop-i-preserved
loop-i-preserved c = record {
  count = ap length c.in_ok-push.ensures.items ∙ length-append c.loop-i.items.items (c.value_after_data.result ∷ []) ∙ ap (λ n. n + 1) c.loop-i.invariant.count;
  built = subst (λ zs. AreBuilt (λ place x. x ≡ with_data c.args.at c.args.len (known_in c.args.self.now) place) zs (c.loop-i.i + 1)) (sym c.in_ok-push.ensures.items)
      (built_more (λ place x. x ≡ with_data c.args.at c.args.len (known_in c.args.self.now) place) c.loop-i.items.items c.loop-i.i c.value_after_data.result c.loop-i.invariant.count c.loop-i.invariant.built c.value_after_data.ensures.known);
  values = subst (λ zs. AreBuilt (λ place x. IsPlaceValue x) zs (c.loop-i.i + 1)) (sym c.in_ok-push.ensures.items)
      (built_more (λ place x. IsPlaceValue x) c.loop-i.items.items c.loop-i.i c.value_after_data.result c.loop-i.invariant.count c.loop-i.invariant.values c.value_after_data.ensures.value);
}

pub returns-clause-stored : goal.returns-clause-stored
returns-clause-stored c =
    built_list (with_data c.args.at c.args.len (known_in c.args.self.now)) c.loop-i.items.items c.loop-i.i c.loop-i.invariant.count c.loop-i.invariant.built
    (λ place le past. with_data-data c.args.at c.args.len (known_in c.args.self.now) place (c.count-i-end.ensures.others place (omega arith)))

pub returns-then-have_data-clause-stored : goal.returns-then-have_data-clause-stored
returns-then-have_data-clause-stored c =
    c.without_pointers.ensures ∙ data_listed (with_data c.args.at c.args.len (known_in c.args.self.now)) (λ place. with_data-data c.args.at c.args.len (known_in c.args.self.now) place (known-data c.args.self.now (c.have_data.ensures.all c.if-have_data.true) place))

pub invariant_of-result : goal.invariant_of-result
invariant_of-result c = kept_built c.loop-i.items.items c.loop-i.i c.loop-i.invariant.count (omega (arith, c.loop-i.invariant.count, c.count.ensures.few)) c.loop-i.invariant.values
