-- Facts about lists that any history needs.
use Rattle.std.proofs.Common.{◌≡◌, ℕ, ◌+◌, Bool, true, false, cond, ◌||◌, List, [], ◌∷◌, ◌++◌, ◌⊎◌, Option, Some, None, map, refl, sym, ap, ◌∙◌, inl, inr, arith, zero-add}
use Rattle.std.specs.List.{list_any, sum_by, filter_map, filter, cons_option}
use Rattle.std.proofs.lemmas.List.Folds.{list_any-append}
use Rattle.std.proofs.lemmas.List.Sums.{sum_by-append}

abbrev pub option_map : {X Y : Type 0} → (X → Y) → Option X → Option Y
option_map f None = None
option_map f (Some x) = Some (f x)

abbrev pub keep_if : {X : Type 0} → Bool → X → Option X
keep_if true x = Some x
keep_if false x = None

abbrev pub option_filter : {X : Type 0} → (X → Bool) → Option X → Option X
option_filter t None = None
option_filter t (Some x) = keep_if (t x) x

pub or-false : (b : Bool) → (b || false) ≡ b
or-false true = refl
or-false false = refl

pub list_any-snoc : {X : Type 0} (t : X → Bool) (xs : List X) (x : X) → list_any t (xs ++ x ∷ []) ≡ (list_any t xs || t x)
list_any-snoc t xs x = list_any-append t xs (x ∷ []) ∙ ap (λ b. list_any t xs || b) (or-false (t x))

pub sum_by-snoc : {X : Type 0} (f : X → ℕ) (xs : List X) (x : X) → sum_by f (xs ++ x ∷ []) ≡ sum_by f xs + f x
sum_by-snoc f xs x = sum_by-append f xs (x ∷ []) ∙ ap (λ n. sum_by f xs + n) (zero-add (f x))

pub sum_by-cons : {X : Type 0} (f : X → ℕ) (x : X) (xs : List X) → sum_by f (x ∷ xs) ≡ f x + sum_by f xs
sum_by-cons f x xs = sum_by-append f (x ∷ []) xs ∙ ap (λ n. n + sum_by f xs) (zero-add (f x))

pub sum_by-agree : {X : Type 0} (f g : X → ℕ) → ((x : X) → g x ≡ f x) → (xs : List X) → sum_by g xs ≡ sum_by f xs
sum_by-agree f g same [] = refl
sum_by-agree f g same (x ∷ xs) = omega (arith, sum_by-cons f x xs, sum_by-cons g x xs, same x, sum_by-agree f g same xs)

pub filter_map-agree : {X Y : Type 0} (f g : X → Option Y) → ((x : X) → g x ≡ f x) → (xs : List X) → filter_map g xs ≡ filter_map f xs
filter_map-agree f g same [] = refl
filter_map-agree f g same (x ∷ xs) = rw (same x, filter_map-agree f g same xs)

cons-map : {X Y : Type 0} (m : X → Y) (o : Option X) (xs : List X) → cons_option (option_map m o) (map m xs) ≡ map m (cons_option o xs)
cons-map m None xs = refl
cons-map m (Some x) xs = refl

pub filter_map-map : {X Y : Type 0} (f g : X → Option Y) (m : Y → Y) → ((x : X) → g x ≡ option_map m (f x)) → (xs : List X) → filter_map g xs ≡ map m (filter_map f xs)
filter_map-map f g m same [] = refl
filter_map-map f g m same (x ∷ xs) = rw (same x, filter_map-map f g m same xs) (cons-map m (f x) (filter_map f xs))

cons-keep : {X : Type 0} (t : X → Bool) (b : Bool) (x : X) (xs : List X) → cons_option (keep_if b x) (filter t xs) ≡ cond b (x ∷ filter t xs) (filter t xs)
cons-keep t true x xs = refl
cons-keep t false x xs = refl

cons-filter : {X : Type 0} (t : X → Bool) (o : Option X) (xs : List X) → cons_option (option_filter t o) (filter t xs) ≡ filter t (cons_option o xs)
cons-filter t None xs = refl
cons-filter t (Some x) xs = cons-keep t (t x) x xs

pub filter_map-filter : {X Y : Type 0} (f g : X → Option Y) (t : Y → Bool) → ((x : X) → g x ≡ option_filter t (f x)) → (xs : List X) → filter_map g xs ≡ filter t (filter_map f xs)
filter_map-filter f g t same [] = refl
filter_map-filter f g t same (x ∷ xs) = rw (same x, filter_map-filter f g t same xs) (cons-filter t (f x) (filter_map f xs))

not_nil : {X : Type 0} (bs : List X) (x : X) (cs : List X) → [] ≡ bs ++ x ∷ cs → ⊥
not_nil [] x cs e = cc
not_nil (b ∷ bs) x cs e = cc

-- an entry of a list with one element appended is that element, or was in the list before
pub snoc_cases : {X : Type 0} (h : List X) (e : X) (bs : List X) (x : X) (cs : List X) → h ++ e ∷ [] ≡ bs ++ x ∷ cs →
    ((bs ≡ h) × (x ≡ e)) ⊎ ((ds : List X) × (h ≡ bs ++ x ∷ ds))
snoc_cases [] e [] x cs is = inl (refl, cc)
snoc_cases [] e (b ∷ bs) x cs is = absurd (not_nil bs x cs cc)
snoc_cases (y ∷ h) e [] x cs is = let same : y ≡ x = cc in inr (h, ap (λ z. z ∷ h) same)
snoc_cases (y ∷ h) e (b ∷ bs) x cs is =
    let same : y ≡ b = cc in
    let tails : h ++ e ∷ [] ≡ bs ++ x ∷ cs = cc in
    elim (snoc_cases h e bs x cs tails) [
      | inl p ↦ let front : bs ≡ h = p.0 in inl (cc, p.1)
      | inr p ↦ let rest : h ≡ bs ++ x ∷ p.0 = p.1 in inr (p.0, cc)
    ]

abbrev pub opt_sum : {X : Type 0} → (X → ℕ) → Option X → ℕ
opt_sum f None = 0
opt_sum f (Some x) = f x

pub sum_by-cons_option : {X : Type 0} (f : X → ℕ) (o : Option X) (xs : List X) → sum_by f (cons_option o xs) ≡ opt_sum f o + sum_by f xs
sum_by-cons_option f None xs = sym (zero-add _)
sum_by-cons_option f (Some x) xs = sum_by-cons f x xs

-- a sum whose term exceeds another sum's term by what a filtered list contributes
pub sum_by-filter_map : {X Y : Type 0} (f g : X → ℕ) (u : X → Option Y) (t : Y → ℕ) → ((x : X) → g x ≡ f x + opt_sum t (u x)) →
    (xs : List X) → sum_by g xs ≡ sum_by f xs + sum_by t (filter_map u xs)
sum_by-filter_map f g u t more [] = refl
sum_by-filter_map f g u t more (x ∷ xs) =
    omega (arith, sum_by-cons f x xs, sum_by-cons g x xs, more x, sum_by-filter_map f g u t more xs, sum_by-cons_option t (u x) (filter_map u xs))

pub sum_by-add : {X : Type 0} (f a g : X → ℕ) → ((x : X) → g x ≡ f x + a x) → (xs : List X) → sum_by g xs ≡ sum_by f xs + sum_by a xs
sum_by-add f a g more [] = refl
sum_by-add f a g more (x ∷ xs) = omega (arith, sum_by-cons f x xs, sum_by-cons a x xs, sum_by-cons g x xs, more x, sum_by-add f a g more xs)

pub sum_by-only : {X Y : Type 0} (g : X → ℕ) (u : X → Option Y) (t : Y → ℕ) → ((x : X) → g x ≡ opt_sum t (u x)) → (xs : List X) → sum_by g xs ≡ sum_by t (filter_map u xs)
sum_by-only g u t is [] = refl
sum_by-only g u t is (x ∷ xs) = omega (arith, sum_by-cons g x xs, is x, sum_by-only g u t is xs, sum_by-cons_option t (u x) (filter_map u xs))
