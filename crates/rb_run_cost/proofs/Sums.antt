-- Sums over lists: swapped, split, and over consecutive records.
use Rattle.std.proofs.Common.{◌≡◌, ⊎_elim, ℕ, zero, suc, ◌+◌, ◌<◌, ◌≤◌, refl, sym, ◌∙◌, ap, subst, false, cond, List, [], ◌∷◌, ◌++◌, length, get_or, arith}
use Rattle.std.specs.Prelude.{◌==◌}
use Rattle.std.specs.List.{Contains, sum_by}
use Rattle.std.proofs.lemmas.Bool.{cases_eq, eq-eqb, ne_eqb}
use Rattle.std.proofs.lemmas.List.Elements.{Contains-append_left, Contains-push}
use Rattle.std.proofs.lemmas.List.Sums.{sum_by-cons, sum_by_push, get_or-le-sum_by}
use Rattle.rb_history.specs.History.{Shown}
use Rattle.rb_history.specs.Span.{span}
use Rattle.rb_history.specs.WorkerCounts.{numbers_below}
use Rattle.rb_history.specs.inner.RecordRows.{InRow}
use Rattle.rb_history.proofs.Lists.{sum_by-add}

-- a sum of zeros
pub sum-none : {X : Type 0} (f : X → ℕ) (xs : List X) → ((x : X) → f x ≡ 0) → sum_by f xs ≡ 0
sum-none f [] none = refl
sum-none f (x ∷ xs) none = let more : sum_by f (x ∷ xs) ≡ f x + sum_by f xs = sum_by-cons f x xs in let rest : sum_by f xs ≡ 0 = sum-none f xs none in let here : f x ≡ 0 = none x in omega arith

-- a sum over two lists does not depend on the order of summation
pub sum-swap : {X Y : Type 0} (f : X → Y → ℕ) (xs : List X) (ys : List Y) → sum_by (λ x. sum_by (f x) ys) xs ≡ sum_by (λ y. sum_by (λ x. f x y) xs) ys
sum-swap f [] ys = sym (sum-none (λ y. 0) ys (λ y. refl))
sum-swap {X} {Y} f (x ∷ xs) ys =
    let more : sum_by (λ x. sum_by (f x) ys) (x ∷ xs) ≡ sum_by (f x) ys + sum_by (λ x. sum_by (f x) ys) xs = sum_by-cons (λ x. sum_by (f x) ys) x xs in
    let rest : sum_by (λ x. sum_by (f x) ys) xs ≡ sum_by (λ y. sum_by (λ x. f x y) xs) ys = sum-swap f xs ys in
    let both : sum_by (λ y. sum_by (λ x. f x y) (x ∷ xs)) ys ≡ sum_by (f x) ys + sum_by (λ y. sum_by (λ x. f x y) xs) ys =
    sum_by-add (f x) (λ y. sum_by (λ x. f x y) xs) (λ y. sum_by (λ x. f x y) (x ∷ xs)) (λ y. sum_by-cons (λ x. f x y) x xs) ys in
    omega arith

-- a sum is at most another if each term is
pub sum-below : {X : Type 0} (f g : X → ℕ) (xs : List X) → ((i : ℕ) (d : X) → i < length xs → f (get_or xs i d) ≤ g (get_or xs i d)) → sum_by f xs ≤ sum_by g xs
sum-below f g [] each = omega arith
sum-below f g (x ∷ xs) each =
    let left : sum_by f (x ∷ xs) ≡ f x + sum_by f xs = sum_by-cons f x xs in
    let right : sum_by g (x ∷ xs) ≡ g x + sum_by g xs = sum_by-cons g x xs in
    let here : f x ≤ g x = each 0 x (omega arith) in
    let rest : sum_by f xs ≤ sum_by g xs = sum-below f g xs (λ i d lt. each (suc i) d (omega arith)) in
    omega arith

-- a smaller number is among the numbers below
pub below-contained : (n k : ℕ) → k < n → Contains (numbers_below n) k
below-contained zero k lt = absurd (omega arith)
below-contained (suc n) k lt =
    ⊎_elim
    (λ same. subst (Contains (numbers_below n ++ n ∷ [])) (sym same) (Contains-push (numbers_below n) n))
    (λ other. Contains-append_left (numbers_below n) (n ∷ []) k (below-contained n k (omega arith)))
    (cases_eq k n)

-- one term is at most the sum over a list that contains its index
pub one_among : (x v : ℕ) (jobs : List ℕ) → Contains jobs x → v ≤ sum_by (λ j. cond (x == j) v 0) jobs
one_among x v jobs (k, lt, is) =
    let part : cond (x == get_or jobs k x) v 0 ≤ sum_by (λ j. cond (x == j) v 0) jobs = get_or-le-sum_by (λ j. cond (x == j) v 0) jobs k x lt in
    let here : cond (x == get_or jobs k x) v 0 ≡ v = ap (λ j. cond (x == j) v 0) is ∙ ap (λ b. cond b v 0) (eq-eqb x x refl) in
    omega arith

-- records beyond a position
beyond : (v x from : ℕ) (ss : List Shown) (to : ℕ) → x < from → InRow from ss to → sum_by (λ s. cond (s.pos == x) v 0) ss ≡ 0
beyond v x from [] to lt row = refl
beyond v x from (s ∷ ss) to lt row =
    let at : s.pos ≡ from = row.0 in
    let away : (s.pos == x) ≡ false = ne_eqb s.pos x (omega arith) in
    let here : cond (s.pos == x) v 0 ≡ 0 = ap (λ b. cond b v 0) away in
    let rest : sum_by (λ (s : Shown). cond (s.pos == x) v 0) ss ≡ 0 = beyond v x (from + span s.len) ss to (omega arith) row.1 in
    let more : sum_by (λ (s : Shown). cond (s.pos == x) v 0) (s ∷ ss) ≡ cond (s.pos == x) v 0 + sum_by (λ (s : Shown). cond (s.pos == x) v 0) ss = sum_by-cons (λ (s : Shown). cond (s.pos == x) v 0) s ss in
    omega arith

-- at most one of consecutive records is at a position
pub one-at : (v x from : ℕ) (ss : List Shown) (to : ℕ) → InRow from ss to → sum_by (λ s. cond (s.pos == x) v 0) ss ≤ v
one-at v x from [] to row = omega arith
one-at v x from (s ∷ ss) to row =
    let at : s.pos ≡ from = row.0 in
    let more : sum_by (λ (s : Shown). cond (s.pos == x) v 0) (s ∷ ss) ≡ cond (s.pos == x) v 0 + sum_by (λ (s : Shown). cond (s.pos == x) v 0) ss = sum_by-cons (λ (s : Shown). cond (s.pos == x) v 0) s ss in
    ⊎_elim
    (λ same.
    let here : cond (s.pos == x) v 0 ≡ v = ap (λ b. cond b v 0) (eq-eqb s.pos x same) in
    let wide : 8 ≤ span s.len = omega arith in
    let rest : sum_by (λ (s : Shown). cond (s.pos == x) v 0) ss ≡ 0 = beyond v x (from + span s.len) ss to (omega arith) row.1 in
    omega arith)
    (λ other.
    let here : cond (s.pos == x) v 0 ≡ 0 = ap (λ b. cond b v 0) (ne_eqb s.pos x other) in
    let rest : sum_by (λ (s : Shown). cond (s.pos == x) v 0) ss ≤ v = one-at v x (from + span s.len) ss to row.1 in
    omega arith)
    (cases_eq s.pos x)

-- a sum over the numbers below n, term by term
pub below-numbers : (f g : ℕ → ℕ) (n : ℕ) → ((k : ℕ) → k < n → f k ≤ g k) → sum_by f (numbers_below n) ≤ sum_by g (numbers_below n)
below-numbers f g zero each = omega arith
below-numbers f g (suc n) each =
    let left : sum_by f (numbers_below n ++ n ∷ []) ≡ sum_by f (numbers_below n) + f n = sum_by_push f (numbers_below n) n in
    let right : sum_by g (numbers_below n ++ n ∷ []) ≡ sum_by g (numbers_below n) + g n = sum_by_push g (numbers_below n) n in
    let rest : sum_by f (numbers_below n) ≤ sum_by g (numbers_below n) = below-numbers f g n (λ k lt. each k (omega arith)) in
    let here : f n ≤ g n = each n (omega arith) in
    omega arith
