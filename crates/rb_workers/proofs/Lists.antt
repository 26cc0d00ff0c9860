-- Laws about lists that are related elementwise.
use Rattle.std.proofs.lemmas.Bool.{cases_eq}
use Rattle.std.proofs.lemmas.List.{get_or-set_same, get_or-set_other, get_or_default}
use Rattle.std.proofs.Common.{◌≡◌, ◌≢◌, ℕ, zero, suc, ◌+◌, ◌<◌, ⊎_elim, set, List, [], ◌∷◌, length, get_or, Some, refl, sym, subst, arith}
use Rattle.std.specs.Prelude.{slice_get}
use Rattle.std.specs.List.{AllZip}

-- two lists of one type, element by element
pub zip_of : {A : Type 0} (R : A → A → Type 0) (xs ys : List A) → length xs ≡ length ys → ((i : ℕ) (d : A) → i < length xs → R (get_or xs i d) (get_or ys i d)) → AllZip R xs ys
zip_of R [] [] len each = tt
zip_of R [] (y ∷ ys) len each = absurd (omega arith)
zip_of R (x ∷ xs) [] len each = absurd (omega arith)
zip_of R (x ∷ xs) (y ∷ ys) len each = (each 0 x (omega arith), zip_of R xs ys (omega arith) (λ i d below. each (suc i) d (omega arith)))

pub zip_seen : {A B : Type 0} (R : A → B → Type 0) (xs : List A) (ys : List B) (i : ℕ) (y : B) → AllZip R xs ys → i < length ys → y ≡ get_or ys i y → (x : A) × (slice_get xs i ≡ Some x) × R x y
zip_seen R xs [] i y all below e = absurd (omega arith)
zip_seen R [] (z ∷ zs) i y all below e = absurd all
zip_seen R (x ∷ xs) (z ∷ zs) zero y all below e = (x, refl, subst (R x) (sym e) all.0)
zip_seen R (x ∷ xs) (z ∷ zs) (suc i) y all below e = zip_seen R xs zs i y all.1 (omega arith) e

-- what holds for each element before one, and for that one, holds for each up to it
pub each_more : {A : Type 0} (R : ℕ → A → A → Type 0) (olds xs : List A) (at : ℕ) (e new : A) → at < length xs → at < length olds → R at (get_or olds at e) new → ((k : ℕ) (d : A) → k < at → R k (get_or olds k d) (get_or xs k d))
    → (k : ℕ) (d : A) → k < at + 1 → R k (get_or olds k d) (get_or (set xs at new) k d)
each_more R olds xs at e new inside within one before k d below =
    ⊎_elim
    (λ (is : k ≡ at).
    subst (λ j. R j (get_or olds j d) (get_or (set xs at new) j d)) (sym is)
    (subst (R at (get_or olds at d)) (sym (get_or-set_same xs at new d inside)) (subst (λ x. R at x new) (get_or_default olds at e d within) one)))
    (λ (other : k ≢ at). subst (R k (get_or olds k d)) (sym (get_or-set_other xs at k new d other)) (before k d (omega arith)))
    (cases_eq k at)
