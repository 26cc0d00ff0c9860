-- Laws about lists that are related elementwise.
use Rattle.std.proofs.Common.{◌≡◌, ◌≢◌, ℕ, zero, suc, ◌<◌, List, [], ◌∷◌, length, get_or, set, Some, refl, ap, sym, subst, arith}
use Rattle.std.specs.Prelude.{slice_get, unwrap_or}
use Rattle.std.specs.List.{AllZip}

pub zip_at : {A B : Type 0} (R : A → B → Type 0) (xs : List A) (ys : List B) (i : ℕ) (a : A) (b : B) → AllZip R xs ys → i < length xs → R (get_or xs i a) (get_or ys i b)
zip_at R [] [] i a b all below = absurd (omega arith)
zip_at R [] (y ∷ ys) i a b all below = absurd all
zip_at R (x ∷ xs) [] i a b all below = absurd all
zip_at R (x ∷ xs) (y ∷ ys) zero a b all below = all.0
zip_at R (x ∷ xs) (y ∷ ys) (suc i) a b all below = zip_at R xs ys i a b all.1 (omega arith)

pub zip_set : {A B : Type 0} (R : A → B → Type 0) (xs : List A) (ys : List B) (i : ℕ) (b y : B) → AllZip R xs ys → ((x : A) → R x (get_or ys i b) → R x y) → AllZip R xs (set ys i y)
zip_set R [] [] i b y all keep = all
zip_set R [] (z ∷ zs) i b y all keep = absurd all
zip_set R (x ∷ xs) [] i b y all keep = all
zip_set R (x ∷ xs) (z ∷ zs) zero b y all keep = (keep x all.0, all.1)
zip_set R (x ∷ xs) (z ∷ zs) (suc i) b y all keep = (all.0, zip_set R xs zs i b y all.1 keep)

pub zip_length : {A B : Type 0} (R : A → B → Type 0) (xs : List A) (ys : List B) → AllZip R xs ys → length xs ≡ length ys
zip_length R [] [] all = refl
zip_length R [] (y ∷ ys) all = absurd all
zip_length R (x ∷ xs) [] all = absurd all
zip_length R (x ∷ xs) (y ∷ ys) all = let e = zip_length R xs ys all.1 in omega arith

pub get_set_here : {A : Type 0} (xs : List A) (i : ℕ) (y : A) → i < length xs → slice_get (set xs i y) i ≡ Some y
get_set_here [] i y below = absurd (omega arith)
get_set_here (x ∷ xs) zero y below = refl
get_set_here (x ∷ xs) (suc i) y below = get_set_here xs i y (omega arith)

pub get_set_other : {A : Type 0} (xs : List A) (i j : ℕ) (y : A) → j ≢ i → slice_get (set xs i y) j ≡ slice_get xs j
get_set_other [] i j y other = refl
get_set_other (x ∷ xs) zero zero y other = absurd (other refl)
get_set_other (x ∷ xs) zero (suc j) y other = refl
get_set_other (x ∷ xs) (suc i) zero y other = refl
get_set_other (x ∷ xs) (suc i) (suc j) y other = get_set_other xs i j y (λ e. other (ap suc e))

-- ---- a list related to itself, and to the next one

pub zip_self : {A : Type 0} (R : A → A → Type 0) → ((x : A) → R x x) → (xs : List A) → AllZip R xs xs
zip_self R same [] = tt
zip_self R same (x ∷ xs) = (same x, zip_self R same xs)

pub zip_through : {A : Type 0} (R : A → A → Type 0) → ((x y z : A) → R x y → R y z → R x z) → (xs ys zs : List A) → AllZip R xs ys → AllZip R ys zs → AllZip R xs zs
zip_through R then [] [] zs first second = second
zip_through R then [] (y ∷ ys) zs first second = absurd first
zip_through R then (x ∷ xs) [] zs first second = absurd first
zip_through R then (x ∷ xs) (y ∷ ys) [] first second = absurd second
zip_through R then (x ∷ xs) (y ∷ ys) (z ∷ zs) first second = (then x y z first.0 second.0, zip_through R then xs ys zs first.1 second.1)

-- one element changes
pub zip_one : {A : Type 0} (R : A → A → Type 0) → ((x : A) → R x x) → (xs : List A) (i : ℕ) (before after : A) → slice_get xs i ≡ Some before → R before after → AllZip R xs (set xs i after)
zip_one R same [] i before after at is = tt
zip_one R same (x ∷ xs) zero before after at is = (subst (λ b. R b after) (sym (ap (λ o. unwrap_or o before) at)) is, zip_self R same xs)
zip_one R same (x ∷ xs) (suc i) before after at is = (same x, zip_one R same xs i before after at is)
