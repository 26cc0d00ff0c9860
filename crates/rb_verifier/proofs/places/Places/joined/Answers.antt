use Rattle.std.proofs.Common.{◌+◌, ◌-◌, [], ◌∷◌, length, ◌∙◌, ap, sym, subst, arith, length-append}
use Rattle.rb_verifier.specs.KeptPointers.{IsPlaceValue, known_in, listed_places}
use Rattle.rb_verifier.specs.inner.KeptList.{from_last}
use Rattle.rb_verifier.proofs.KeptPlaces.{AreBuilt, built_more, built_all, data_join, each_place, known-from_last, known_beyond}
use Rattle.rb_verifier.specs.inner.ValueJoins.{IsJoinValue}
use Rattle.rb_verifier.proofs.PlaceValues.{kept_built, value_joined}
use Rattle.rb_verifier.proofs.places.Places.joined.Goals as goal

pub loop-i-preserved : goal.loop-i-preserved
loop-i-preserved c = record {
  count = ap length c.in_ok-push.ensures.items ∙ length-append c.loop-i.items.items (c.join_value.result ∷ []) ∙ ap (λ n. n + 1) c.loop-i.invariant.count;
  built = subst (λ zs. AreBuilt (λ place x. IsJoinValue (known_in c.args.self.now place) (known_in c.args.other.now place) x) zs (c.loop-i.i + 1)) (sym c.in_ok-push.ensures.items)
      (built_more (λ place x. IsJoinValue (known_in c.args.self.now place) (known_in c.args.other.now place) x) c.loop-i.items.items c.loop-i.i c.join_value.result c.loop-i.invariant.count c.loop-i.invariant.built (subst (λ v. IsJoinValue v (known_in c.args.other.now (63 - c.loop-i.i)) c.join_value.result) c.get.ensures.known (subst (λ w. IsJoinValue c.get.result w c.join_value.result) c.get-in-loop-i.ensures.known c.join_value.ensures)));
  values = subst (λ zs. AreBuilt (λ place x. IsPlaceValue x) zs (c.loop-i.i + 1)) (sym c.in_ok-push.ensures.items)
      (built_more (λ place x. IsPlaceValue x) c.loop-i.items.items c.loop-i.i c.join_value.result c.loop-i.invariant.count c.loop-i.invariant.values (value_joined c.get.result c.get-in-loop-i.result c.join_value.result c.join_value.ensures c.get.ensures.value));
}

pub returns-clause-joined : goal.returns-clause-joined
returns-clause-joined c =
    each_place (λ place. IsJoinValue (known_in c.args.self.now place) (known_in c.args.other.now place) (known_in (listed_places (from_last c.loop-i.items.items)) place)) 64
    (λ i lt. subst (IsJoinValue (known_in c.args.self.now (63 - i)) (known_in c.args.other.now (63 - i))) (sym (known-from_last c.loop-i.items.items (63 - i)))
    (built_all (λ place x. IsJoinValue (known_in c.args.self.now place) (known_in c.args.other.now place) x) c.loop-i.items.items c.loop-i.i c.loop-i.invariant.count c.loop-i.invariant.built
    (λ place le past. rw (c.count.ensures.others place (omega arith), c.count-2.ensures.others place (omega arith)) data_join) (63 - i) (omega arith)))
    (λ place past. absurd (omega arith))
    (λ place past. rw (c.count.ensures.beyond place past, c.count-2.ensures.beyond place past, known_beyond c.loop-i.items.items place past) data_join)

pub invariant_of-result : goal.invariant_of-result
invariant_of-result c = kept_built c.loop-i.items.items c.loop-i.i c.loop-i.invariant.count (omega (arith, c.loop-i.invariant.count, c.count.ensures.few)) c.loop-i.invariant.values
