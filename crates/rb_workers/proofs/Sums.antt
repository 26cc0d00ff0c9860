-- Sums over workers, and over the rows and columns of a table.
use Rattle.std.proofs.Common.{◌≡◌, ◌≢◌, ℕ, zero, suc, ◌+◌, ◌<◌, List, [], ◌∷◌, length, Option, Some, None, refl, sym, arith}
use Rattle.std.proofs.lemmas.List.Elements.{All-head, All-tail}
use Rattle.std.proofs.lemmas.List.Sums.{sum_by-cons}
use Rattle.std.specs.Prelude.{slice_get}
use Rattle.std.specs.List.{All, cons_option, sum_by}
use Rattle.rb_ledger.specs.Seats.{WorkerSeat}
use Rattle.rb_workers.specs.SeatRows.{worker_column}

-- ---- sums over the numbers below n

-- f 0 + f 1 + .. + f (n - 1)
abbrev pub sum_to : ℕ → (ℕ → ℕ) → ℕ
sum_to zero f = 0
sum_to (suc n) f = f 0 + sum_to n (λ k. f (suc k))

pub sum_to_same : (n : ℕ) (f g : ℕ → ℕ) → ((k : ℕ) → k < n → f k ≡ g k) → sum_to n f ≡ sum_to n g
sum_to_same zero f g same = refl
sum_to_same (suc n) f g same =
    let first = same 0 (omega arith) in
    let rest = sum_to_same n (λ k. f (suc k)) (λ k. g (suc k)) (λ k below. same (suc k) (omega arith)) in
    omega (arith, first, rest)

pub sum_to_none : (n : ℕ) → sum_to n (λ k. 0) ≡ 0
sum_to_none zero = refl
sum_to_none (suc n) = let rest = sum_to_none n in omega (arith, rest)

pub sum_to_add : (n : ℕ) (f g : ℕ → ℕ) → sum_to n (λ k. f k + g k) ≡ sum_to n f + sum_to n g
sum_to_add zero f g = refl
sum_to_add (suc n) f g = let rest = sum_to_add n (λ k. f (suc k)) (λ k. g (suc k)) in omega (arith, rest)

-- two that differ at one number only
pub sum_to_but_one : (n at : ℕ) (f g : ℕ → ℕ) → at < n → ((k : ℕ) → k < n → k ≢ at → f k ≡ g k) → sum_to n f + g at ≡ sum_to n g + f at
sum_to_but_one zero at f g inside same = absurd (omega arith)
sum_to_but_one (suc n) zero f g inside same =
    let rest = sum_to_same n (λ k. f (suc k)) (λ k. g (suc k)) (λ k below. same (suc k) (omega arith) (λ e. absurd (omega arith))) in
    omega (arith, rest)
sum_to_but_one (suc n) (suc at) f g inside same =
    let first = same 0 (omega arith) (λ e. absurd (omega arith)) in
    let rest = sum_to_but_one n at (λ k. f (suc k)) (λ k. g (suc k)) (omega arith) (λ k below other. same (suc k) (omega arith) (λ e. other (omega arith))) in
    omega (arith, first, rest)

-- ---- tables

-- the number of the element, or 0 if there is none
abbrev pub number_at : {A : Type 0} → (A → ℕ) → Option A → ℕ
number_at f None = 0
number_at f (Some x) = f x

row_sum : {A : Type 0} (f : A → ℕ) (n : ℕ) (xs : List A) → length xs ≡ n → sum_to n (λ k. number_at f (slice_get xs k)) ≡ sum_by f xs
row_sum f zero [] len = refl
row_sum f (suc n) [] len = absurd (omega arith)
row_sum f zero (x ∷ xs) len = absurd (omega arith)
row_sum f (suc n) (x ∷ xs) len = let rest = row_sum f n xs (omega arith) in let all = sum_by-cons f x xs in omega (arith, rest, all)

pub cons_sum : {A : Type 0} (f : A → ℕ) (o : Option A) (xs : List A) → sum_by f (cons_option o xs) ≡ number_at f o + sum_by f xs
cons_sum f None xs = omega arith
cons_sum f (Some x) xs = sum_by-cons f x xs

-- the sum by rows is the sum by columns
pub sum_of_columns : (f : WorkerSeat → ℕ) (count : ℕ) (seats : List (List WorkerSeat)) → All (λ row. length row ≡ count) seats
    → sum_by (λ row. sum_by f row) seats ≡ sum_to count (λ k. sum_by f (worker_column k seats))
sum_of_columns f count [] each = sym (sum_to_none count)
sum_of_columns f count (row ∷ seats) each =
    let rest = sum_of_columns f count seats (All-tail (λ (r : List WorkerSeat). length r ≡ count) row seats each) in
    let first = row_sum f count row (All-head (λ (r : List WorkerSeat). length r ≡ count) row seats each) in
    let all = sum_by-cons (λ (r : List WorkerSeat). sum_by f r) row seats in
    let parts = sum_to_add count (λ k. number_at f (slice_get row k)) (λ k. sum_by f (worker_column k seats)) in
    let columns = sum_to_same count (λ k. sum_by f (worker_column k (row ∷ seats))) (λ k. number_at f (slice_get row k) + sum_by f (worker_column k seats)) (λ k below. cons_sum f (slice_get row k) (worker_column k seats)) in
    omega (arith, rest, first, all, parts, columns)
