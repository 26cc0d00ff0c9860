-- Lists and sums of all workers.
use Rattle.std.proofs.Common.{◌≡◌, ℕ, zero, suc, ◌+◌, ◌<◌, List, [], ◌∷◌, ◌++◌, length, get_or, refl, sym, ap, ◌∙◌, length-append, arith}
use Rattle.std.specs.List.{sum_by}
use Rattle.std.proofs.lemmas.List.Sums.{sum_by-append, sum_by-cons}
use Rattle.rb_dealing.specs.Dealt.{saturated}
use Rattle.rb_stream.specs.Streamed.{of_all}
use Rattle.rb_workers.proofs.Sums.{sum_to}

pub sum_to_last : (n : ℕ) (f : ℕ → ℕ) → sum_to (suc n) f ≡ sum_to n f + f n
sum_to_last zero f = omega arith
sum_to_last (suc n) f = let rest = sum_to_last n (λ k. f (suc k)) in omega (arith, rest)

-- a measure of concatenated lists is the sum of their measures
pub measure_of_all : {A : Type 0} (m : List A → ℕ) → m [] ≡ 0 → ((xs ys : List A) → m (xs ++ ys) ≡ m xs + m ys) → (n : ℕ) (lists : ℕ → List A) → m (of_all n lists) ≡ sum_to n (λ k. m (lists k))
measure_of_all m none both zero lists = none
measure_of_all m none both (suc n) lists =
    let rest = measure_of_all m none both n lists in
    let first = both (of_all n lists) (lists n) in
    let last = sum_to_last n (λ k. m (lists k)) in
    omega (arith, rest, first, last)

pub sum_of_all : {A : Type 0} (f : A → ℕ) (n : ℕ) (lists : ℕ → List A) → sum_by f (of_all n lists) ≡ sum_to n (λ k. sum_by f (lists k))
sum_of_all f n lists = measure_of_all (sum_by f) refl (sum_by-append f) n lists

pub length_of_all : {A : Type 0} (n : ℕ) (lists : ℕ → List A) → length (of_all n lists) ≡ sum_to n (λ k. length (lists k))
length_of_all n lists = measure_of_all length refl length-append n lists

-- the numbers of the elements of a list
pub sum_of_items : {A : Type 0} (f : A → ℕ) (xs : List A) (g : ℕ → ℕ) → ((k : ℕ) (d : A) → k < length xs → f (get_or xs k d) ≡ g k) → sum_by f xs ≡ sum_to (length xs) g
sum_of_items f [] g each = refl
sum_of_items f (x ∷ xs) g each =
    let first = each 0 x (omega arith) in
    let rest = sum_of_items f xs (λ k. g (suc k)) (λ k d below. each (suc k) d (omega arith)) in
    let sum = sum_by-cons f x xs in
    omega (arith, first, rest, sum)

-- ---- numbers that saturate

-- the sum of saturating counts
pub saturated_sum : (n : ℕ) (f g : ℕ → ℕ) → ((k : ℕ) → k < n → f k ≡ saturated (g k)) → saturated (sum_to n f) ≡ saturated (sum_to n g)
saturated_sum zero f g each = refl
saturated_sum (suc n) f g each =
    let first = each 0 (omega arith) in
    let rest = saturated_sum n (λ k. f (suc k)) (λ k. g (suc k)) (λ k below. each (suc k) (omega arith)) in
    omega (arith, first, rest)

-- the counts of workers, added up, are the count of what they have together
pub counted_together : {A B : Type 0} (f : A → ℕ) (xs : List A) (m : List B → ℕ) (lists : ℕ → List B) → m [] ≡ 0 → ((ys zs : List B) → m (ys ++ zs) ≡ m ys + m zs)
    → ((k : ℕ) (d : A) → k < length xs → f (get_or xs k d) ≡ saturated (m (lists k))) → saturated (sum_by f xs) ≡ saturated (m (of_all (length xs) lists))
counted_together f xs m lists none both each =
    ap saturated (sum_of_items f xs (λ k. saturated (m (lists k))) each)
    ∙ (saturated_sum (length xs) (λ k. saturated (m (lists k))) (λ k. m (lists k)) (λ k below. refl)
    ∙ ap saturated (sym (measure_of_all m none both (length xs) lists)))
