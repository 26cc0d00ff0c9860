-- The order of abstract values and of abstract states.
use Rattle.std.proofs.Common.{ℕ, refl, sym, ◌∙◌, subst}
use Rattle.rb_verifier.specs.declared.value.Abs.{Abs}
use Rattle.rb_verifier.specs.declared.value.Abs.TheVariants.{Unreadable, Number, Known, Ctx, Stack, Ring, Perhaps, Record}
use Rattle.rb_verifier.specs.declared.state.AbsState.{AbsState}
use Rattle.rb_verifier.specs.AbstractValues.{IsNumber, BelowValue}
use Rattle.rb_verifier.specs.KeptPointers.{known_in}
use Rattle.rb_verifier.specs.AbstractStates.{Below, value_in}

pub below_value_refl : (v : Abs) → BelowValue v v
below_value_refl Unreadable = tt
below_value_refl Number = tt
below_value_refl (Known n) = refl
below_value_refl (Ctx o) = refl
below_value_refl (Stack o) = refl
below_value_refl (Ring n) = refl
below_value_refl (Perhaps n) = refl
below_value_refl (Record n o) = refl

-- a property of a value below another holds if it holds when the upper one is Unreadable, when it is Number, and when
-- both are equal
pub below_cases : (P : Abs → Abs → Type 0) → ((v : Abs) → P v Unreadable) → ((v : Abs) → IsNumber v → P v Number) → ((v : Abs) → P v v) → (v w : Abs) → BelowValue v w → P v w
below_cases P top number same v Unreadable h = top v
below_cases P top number same v Number h = number v h
below_cases P top number same v (Known n) h = subst (λ x. P x (Known n)) (sym h) (same (Known n))
below_cases P top number same v (Ctx o) h = subst (λ x. P x (Ctx o)) (sym h) (same (Ctx o))
below_cases P top number same v (Stack o) h = subst (λ x. P x (Stack o)) (sym h) (same (Stack o))
below_cases P top number same v (Ring n) h = subst (λ x. P x (Ring n)) (sym h) (same (Ring n))
below_cases P top number same v (Perhaps n) h = subst (λ x. P x (Perhaps n)) (sym h) (same (Perhaps n))
below_cases P top number same v (Record n o) h = subst (λ x. P x (Record n o)) (sym h) (same (Record n o))

-- a property of numbers holds if it holds for an unknown number and for each known one
pub number_cases : (P : Abs → Type 0) → P Number → ((n : ℕ) → P (Known n)) → (v : Abs) → IsNumber v → P v
number_cases P number known Unreadable h = absurd h
number_cases P number known Number h = number
number_cases P number known (Known n) h = known n
number_cases P number known (Ctx o) h = absurd h
number_cases P number known (Stack o) h = absurd h
number_cases P number known (Ring n) h = absurd h
number_cases P number known (Perhaps n) h = absurd h
number_cases P number known (Record n o) h = absurd h

pub below_value_trans : (u v w : Abs) → BelowValue u v → BelowValue v w → BelowValue u w
below_value_trans u v w g h =
    below_cases (λ v w. BelowValue u v → BelowValue u w) (λ v k. tt)
    (λ v n k. number_cases (λ v. BelowValue u v → IsNumber u) (λ k. k) (λ n k. subst IsNumber (sym k) tt) v n k) (λ v k. k) v w h g

pub below_refl : (s : AbsState) → Below s s
below_refl s = record { held = refl; count = refl; values = λ r. below_value_refl (value_in s r); places = λ place. below_value_refl (known_in s.places place) }

pub below_trans : {s t u : AbsState} → Below s t → Below t u → Below s u
below_trans {s} {t} {u} g h = record {
  held = g.held ∙ h.held;
  count = g.count ∙ h.count;
  values = λ r. below_value_trans (value_in s r) (value_in t r) (value_in u r) (g.values r) (h.values r);
  places = λ place. below_value_trans (known_in s.places place) (known_in t.places place) (known_in u.places place) (g.places place) (h.places place);
}
