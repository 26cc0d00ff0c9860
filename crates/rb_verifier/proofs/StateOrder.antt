-- The effects on states are monotone.
use Rattle.std.proofs.Common.{◌≡◌, ℕ, zero, suc, sym, ◌∙◌, ap, List, [], ◌∷◌, length, map, get_or, set, length-set}
use Rattle.std.proofs.lemmas.List.{length-map}
use Rattle.rb_verifier.specs.declared.reference_changes.Change.{Change}
use Rattle.rb_verifier.specs.declared.references.Reference.{Reference}
use Rattle.rb_verifier.specs.declared.state.AbsState.{AbsState}
use Rattle.rb_verifier.specs.declared.value.Abs.{Abs}
use Rattle.rb_verifier.specs.declared.value.Abs.TheVariants.{Unreadable}
use Rattle.rb_verifier.specs.AbstractValues.{BelowValue}
use Rattle.rb_verifier.specs.AbstractStates.{Below, EffectBelow, put, effect_on_both}
use Rattle.rb_verifier.specs.inner.ChangedValues.{after_change, place_after}
use Rattle.rb_verifier.specs.KeptPointers.{listed_places, known_in}
use Rattle.rb_verifier.specs.HelperChecks.{after_answer}
use Rattle.rb_verifier.proofs.CheckOrder.{changed_below, place_changed_below}
use Rattle.rb_verifier.proofs.KeptOrder.{ListsBelow, listed_below}

abbrev ValuesBelow : List Abs → List Abs → Type 0
ValuesBelow xs ys = (r : ℕ) → BelowValue (get_or xs r Unreadable) (get_or ys r Unreadable)

set_below : (xs ys : List Abs) (r : ℕ) (v w : Abs) → length xs ≡ length ys → BelowValue v w → ValuesBelow xs ys → ValuesBelow (set xs r v) (set ys r w)
set_below [] [] r v w n h k q = tt
set_below [] (y ∷ ys) r v w n h k q = cc
set_below (x ∷ xs) [] r v w n h k q = cc
set_below (x ∷ xs) (y ∷ ys) zero v w n h k zero = h
set_below (x ∷ xs) (y ∷ ys) zero v w n h k (suc q) = k (suc q)
set_below (x ∷ xs) (y ∷ ys) (suc r) v w n h k zero = k zero
set_below (x ∷ xs) (y ∷ ys) (suc r) v w n h k (suc q) = set_below xs ys r v w (cc) h (λ q. k (suc q)) q

map_below : (f : Abs → Abs) → ((v w : Abs) → BelowValue v w → BelowValue (f v) (f w)) → (xs ys : List Abs) → length xs ≡ length ys → ValuesBelow xs ys → ValuesBelow (map f xs) (map f ys)
map_below f m [] [] n k q = tt
map_below f m [] (y ∷ ys) n k q = cc
map_below f m (x ∷ xs) [] n k q = cc
map_below f m (x ∷ xs) (y ∷ ys) n k zero = m x y (k zero)
map_below f m (x ∷ xs) (y ∷ ys) n k (suc q) = map_below f m xs ys (cc) (λ q. k (suc q)) q

pub put_below : (s t : AbsState) (r : ℕ) (v w : Abs) → Below s t → BelowValue v w → Below (put s r v) (put t r w)
put_below s t r v w h k = record {
  held = h.held;
  count = length-set s.values r v ∙ h.count ∙ sym (length-set t.values r w);
  values = set_below s.values t.values r v w h.count k h.values;
  places = h.places;
}

pub placed_below : (s t : AbsState) (xs ys : List Abs) → Below s t → ListsBelow xs ys → Below (record s { places = xs }) (record t { places = ys })
placed_below s t xs ys h k = record { held = h.held; count = h.count; values = h.values; places = k }

-- changing each value, and the references by a function, is monotone
pub changes_below : (change : Change) (f : List Reference → List Reference) (s t : AbsState) → Below s t → Below (record { values = map (after_change change) s.values; held = f s.held; places = listed_places (λ place. place_after change (known_in s.places place)) }) (record { values = map (after_change change) t.values; held = f t.held; places = listed_places (λ place. place_after change (known_in t.places place)) })
changes_below change f s t h = record {
  held = ap f h.held;
  count = length-map s.values (after_change change) ∙ h.count ∙ sym (length-map t.values (after_change change));
  values = map_below (after_change change) (changed_below change) s.values t.values h.count h.values;
  places = listed_below (λ place. place_after change (known_in s.places place)) (λ place. place_after change (known_in t.places place)) (λ place. place_changed_below change _ _ (h.places place));
}

pub held_below : (f : List Reference → List Reference) (s t : AbsState) → Below s t → Below (record s { held = f s.held }) (record t { held = f t.held })
held_below f s t h = record { held = ap f h.held; count = h.count; values = h.values; places = h.places }

pub answered_below : (s t : AbsState) (v w : Abs) → Below s t → BelowValue v w → Below (after_answer v s) (after_answer w t)
answered_below s t v w h k =
    put_below _ _ 5 Unreadable Unreadable (put_below _ _ 4 Unreadable Unreadable (put_below _ _ 3 Unreadable Unreadable
    (put_below _ _ 2 Unreadable Unreadable (put_below _ _ 1 Unreadable Unreadable (put_below s t 0 v w h k) tt) tt) tt) tt) tt

pub both_below : (s t : AbsState) → Below s t → EffectBelow (effect_on_both s) (effect_on_both t)
both_below s t h = record { next = h; jump = h }
