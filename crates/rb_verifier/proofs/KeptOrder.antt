-- The checks on pointers spilled to the stack are monotone.
use Rattle.std.proofs.Common.{◌≡◌, ℕ, zero, suc, ◌+◌, Bool, true, false, refl, ⊎_elim, List, Option, Some, None, Result}
use Rattle.std.specs.Prelude.{◌==◌, ◌&&◌, ◌||◌, not, if◌then◌else◌}
use Rattle.std.proofs.lemmas.Bool.{cases_lt}
use Rattle.rb_verifier.specs.declared.rule.Rule.{Rule}
use Rattle.rb_verifier.specs.declared.rule.Rule.TheVariants as rule
use Rattle.rb_verifier.specs.declared.value.Abs.{Abs}
use Rattle.rb_verifier.specs.declared.value.Abs.TheVariants.{Unreadable, Number, Known, Ctx, Stack, Ring, Perhaps, Record}
use Rattle.rb_verifier.specs.AbstractValues.{IsNumber, BelowValue}
use Rattle.rb_verifier.specs.StackPlaces.{touches, any_place, whole_place}
use Rattle.rb_verifier.specs.KeptPointers.{KnownPlaces, listed_places, known_in, is_data, with_place, with_data, may_keep, check_data, check_filled, check_loaded, check_kept, check_stored}
use Rattle.rb_verifier.specs.ValueChecks.{refused_if, check_readable, check_number}
use Rattle.rb_verifier.specs.StepOrder.{ResultBelow}
use Rattle.rb_verifier.proofs.KeptPlaces.{known-listed, known-past}
use Rattle.rb_verifier.proofs.Order.{below_value_refl, below_cases, number_cases}
use Rattle.rb_verifier.proofs.CheckOrder.{CheckBelow, check_refl, result_bind, number_below}

-- each place is below
abbrev pub PlacesBelow : KnownPlaces → KnownPlaces → Type 0
PlacesBelow f g = (place : ℕ) → BelowValue (f place) (g place)

data_number : (v : Abs) → IsNumber v → is_data v ≡ true
data_number = number_cases (λ v. is_data v ≡ true) refl (λ n. refl)

-- what is data in the greater value is data in the smaller one
kept_below : (b : Bool) (v w : Abs) → BelowValue v w → (b && not (is_data w)) ≡ false → (b && not (is_data v)) ≡ false
kept_below false v w h e = refl
kept_below true v w h e =
    below_cases (λ v w. (true && not (is_data w)) ≡ false → (true && not (is_data v)) ≡ false) (λ v e. absurd (cc)) (λ v n e. rw (data_number v n) refl) (λ v e. e) v w h e

none_below : (f g : ℕ → Bool) → ((place : ℕ) → g place ≡ false → f place ≡ false) → (n : ℕ) → any_place g n ≡ false → any_place f n ≡ false
none_below f g h zero e = refl
none_below f g h (suc n) e = both (g n) refl (λ k. none_below f g h n k) e
  where
    both : (b : Bool) → g n ≡ b → (any_place g n ≡ false → any_place f n ≡ false) → (b || any_place g n) ≡ false → any_place f (suc n) ≡ false
    both true at rest e = absurd (cc)
    both false at rest e = rw (h n at) (rest e)

module _ (f g : KnownPlaces) (h : PlacesBelow f g) where
  refused_below : (at len : ℕ) (b c : Bool) → may_keep at len f ≡ b → may_keep at len g ≡ c → CheckBelow (refused_if b rule.Unreadable) (refused_if c rule.Unreadable)
  refused_below at len b true d e = tt
  refused_below at len false false d e = tt
  refused_below at len true false d e =
      let none : may_keep at len f ≡ false = none_below (λ place. touches at len place && not (is_data (f place))) (λ place. touches at len place && not (is_data (g place))) (λ place k. kept_below (touches at len place) (f place) (g place) (h place) k) (at + len) e in
      absurd (cc)

  pub data_same : (at : Option ℕ) (len : ℕ) → CheckBelow (check_data at len f) (check_data at len g)
  data_same None len = tt
  data_same (Some at) len = refused_below at len (may_keep at len f) (may_keep at len g) refl refl

  filled_same : (place : Option ℕ) (at len : ℕ) → ResultBelow BelowValue (check_filled place at len f) (check_filled place at len g)
  filled_same (Some place) at len = h place
  filled_same None at len = result_bind (λ _ _. Unit {0}) BelowValue (check_data (Some at) len f) (check_data (Some at) len g) _ _ (data_same (Some at) len) (λ _ _ _. tt)

  pub loaded_same : (at : Option ℕ) (len : ℕ) → ResultBelow BelowValue (check_loaded at len f) (check_loaded at len g)
  loaded_same None len = tt
  loaded_same (Some at) len = filled_same (whole_place at len) at len

  data_placed : (at len : ℕ) → PlacesBelow (with_data at len f) (with_data at len g)
  data_placed at len place =
      elim (touches at len place) as (λ b. BelowValue (if b then Number else f place) (if b then Number else g place)) [ true ↦ tt | false ↦ h place ]

-- lists of places are ordered if each place is
pub listed_below : (f g : KnownPlaces) → PlacesBelow f g → PlacesBelow (known_in (listed_places f)) (known_in (listed_places g))
listed_below f g h place = ⊎_elim (λ lt. rw (known-listed f place lt, known-listed g place lt) (h place)) (λ le. rw (known-past f place le, known-past g place le) tt) (cases_lt place 64)

abbrev pub ListsBelow : List Abs → List Abs → Type 0
ListsBelow xs ys = PlacesBelow (known_in xs) (known_in ys)

-- setting the same place to the same value keeps the order
kept_placed : (f g : KnownPlaces) → PlacesBelow f g → (place : ℕ) (v : Abs) → PlacesBelow (with_place place v f) (with_place place v g)
kept_placed f g h place v other = elim (other == place) as (λ b. BelowValue (if b then v else f other) (if b then v else g other)) [ true ↦ below_value_refl v | false ↦ h other ]

kept_same : (f g : KnownPlaces) → PlacesBelow f g → (place : Option ℕ) (v : Abs) → ResultBelow ListsBelow (check_kept place v f) (check_kept place v g)
kept_same f g h (Some place) v =
    result_bind (λ _ _. Unit {0}) ListsBelow (check_readable v) (check_readable v) _ _ (check_refl (check_readable v)) (λ _ _ _. listed_below (with_place place v f) (with_place place v g) (kept_placed f g h place v))
kept_same f g h None v = result_bind (λ _ _. Unit {0}) ListsBelow (check_readable v) (check_readable v) _ _ (check_refl (check_readable v)) (λ _ _ _. tt)

module _ (xs ys : List Abs) (h : ListsBelow xs ys) (at len : ℕ) where
  abbrev Stored : Abs → Abs → Type 0
  Stored x y = ResultBelow ListsBelow (check_stored (Some at) len x xs) (check_stored (Some at) len y ys)

  data_stored : ListsBelow (listed_places (with_data at len (known_in xs))) (listed_places (with_data at len (known_in ys)))
  data_stored = listed_below (with_data at len (known_in xs)) (with_data at len (known_in ys)) (data_placed (known_in xs) (known_in ys) h at len)

  none_stored : (place : Option ℕ) (m : Result (List Abs) Rule) → ResultBelow ListsBelow m (check_kept place Unreadable (known_in ys))
  none_stored (Some place) m = tt
  none_stored None m = tt

  value_stored : (v : Abs) → Stored v v
  value_stored Number = data_stored
  value_stored (Known n) = data_stored
  value_stored Unreadable = none_stored (whole_place at len) (check_stored (Some at) len Unreadable xs)
  value_stored (Ctx o) = kept_same (known_in xs) (known_in ys) h (whole_place at len) (Ctx o)
  value_stored (Stack o) = kept_same (known_in xs) (known_in ys) h (whole_place at len) (Stack o)
  value_stored (Ring n) = kept_same (known_in xs) (known_in ys) h (whole_place at len) (Ring n)
  value_stored (Perhaps n) = kept_same (known_in xs) (known_in ys) h (whole_place at len) (Perhaps n)
  value_stored (Record n o) = kept_same (known_in xs) (known_in ys) h (whole_place at len) (Record n o)

  stored_there : (x y : Abs) → BelowValue x y → Stored x y
  stored_there =
      below_cases Stored (λ v. none_stored (whole_place at len) (check_stored (Some at) len v xs)) (number_cases (λ v. Stored v Number) data_stored (λ n. data_stored)) value_stored

pub stored_same : (xs ys : List Abs) → ListsBelow xs ys → (at : Option ℕ) (len : ℕ) (x y : Abs) → BelowValue x y → ResultBelow ListsBelow (check_stored at len x xs) (check_stored at len y ys)
stored_same xs ys h None len x y b = result_bind (λ _ _. Unit {0}) ListsBelow (check_number rule.PointerStored x) (check_number rule.PointerStored y) _ _ (number_below rule.PointerStored x y b) (λ _ _ _. h)
stored_same xs ys h (Some at) len x y b = stored_there xs ys h at len x y b
