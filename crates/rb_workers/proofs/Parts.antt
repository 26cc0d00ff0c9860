-- Laws about seats in rows and columns.
use Rattle.std.proofs.Common.{◌≡◌, ℕ, suc, ◌+◌, ◌<◌, ◌≤◌, List, [], ◌∷◌, ◌++◌, length, Option, Some, None, refl, ap, sym, ◌∙◌, subst, append_assoc, append-nil, length-append, arith}
use Rattle.std.proofs.lemmas.List.{get_or_append_left, get_or_push, length-map}
use Rattle.std.proofs.lemmas.List.Elements.{filter_map-append}
use Rattle.std.specs.Prelude.{slice_get, All}
use Rattle.std.specs.List.{AllZip, cons_option}
use Rattle.rb_ledger.specs.Seats.{WorkerSeat}
use Rattle.rb_workers.specs.declared.opened.Opened.{Opened}
use Rattle.rb_workers.specs.SeatRows.{worker_column, seat_rows}

cons_length : {A : Type 0} (o : Option A) (xs : List A) → length (cons_option o xs) ≤ length xs + 1
cons_length None xs = omega arith
cons_length (Some x) xs = omega arith

pub column_length : (k : ℕ) (seats : List (List WorkerSeat)) → length (worker_column k seats) ≤ length seats
column_length k [] = omega arith
column_length k (row ∷ seats) = let h = column_length k seats in let c = cons_length (slice_get row k) (worker_column k seats) in omega arith

pub column_more : (k : ℕ) (seats : List (List WorkerSeat)) (row : List WorkerSeat) (s : WorkerSeat) → slice_get row k ≡ Some s → worker_column k (seats ++ row ∷ []) ≡ worker_column k seats ++ s ∷ []
column_more k seats row s e = filter_map-append (λ (r : List WorkerSeat). slice_get r k) seats (row ∷ []) ∙ ap (λ (o : Option WorkerSeat). worker_column k seats ++ cons_option o []) e

pub some_of : (row : List WorkerSeat) (k : ℕ) → k < length row → WorkerSeat
some_of [] k below = absurd (omega arith)
some_of (s ∷ row) k below = s

pub less : {A : Type 0} (done rest more all : List A) (x : A) → done ++ rest ≡ all → rest ≡ x ∷ more → length done < length all
less done rest more all x e e' =
    let n : length all ≡ length done + length rest = ap length (sym e) ∙ length-append done rest in
    let m : length rest ≡ length (x ∷ more) = ap length e' in
    omega arith

pub shift : {A : Type 0} (done rest more all : List A) (x : A) → done ++ rest ≡ all → rest ≡ x ∷ more → (done ++ x ∷ []) ++ more ≡ all
shift done rest more all x e e' = append_assoc done (x ∷ []) more ∙ (ap (λ l. done ++ l) (sym e') ∙ e)

pub zip_more : {A B : Type 0} (R : A → B → Type 0) (xs : List A) (ys : List B) (x : A) (y : B) → AllZip R xs ys → R x y → AllZip R (xs ++ x ∷ []) (ys ++ y ∷ [])
zip_more R [] [] x y all one = (one, tt)
zip_more R [] (b ∷ ys) x y all one = absurd all
zip_more R (a ∷ xs) [] x y all one = absurd all
zip_more R (a ∷ xs) (b ∷ ys) x y all one = (all.0, zip_more R xs ys x y all.1 one)

pub all_first : {A : Type 0} (P : A → Type 0) (rest more : List A) (x : A) → rest ≡ x ∷ more → All P rest → P x
all_first P rest more x e all = (subst (All P) e all) 0 x (omega arith)

pub all_rest : {A : Type 0} (P : A → Type 0) (rest more : List A) (x : A) → rest ≡ x ∷ more → All P rest → All P more
all_rest P rest more x e all = λ k d below. (subst (All P) e all) (suc k) d (omega arith)

pub rows_length : {S : Type 0} (xs : List (Opened S)) → length (seat_rows xs) ≡ length xs
rows_length xs = length-map xs (λ o. o.seats.items)

pub nothing : {A : Type 0} (done rest all : List A) → done ++ rest ≡ all → length rest ≡ 0 → done ≡ all
nothing done [] all e z = sym (append-nil done) ∙ e
nothing done (x ∷ rest) all e z = absurd (omega arith)

pub unshift : {A : Type 0} (front back done all : List A) (x : A) → back ≡ front ++ x ∷ [] → back ++ done ≡ all → front ++ x ∷ done ≡ all
unshift front back done all x e e' = sym (append_assoc front (x ∷ []) done) ∙ (ap (λ l. l ++ done) (sym e) ∙ e')

pub all_front : {A : Type 0} (P : A → Type 0) (front back : List A) (x : A) → back ≡ front ++ x ∷ [] → All P back → All P front
all_front P front back x e all = λ k d below. subst P (get_or_append_left front (x ∷ []) d k below) ((subst (All P) e all) k d (let n = length-append front (x ∷ []) in omega arith))

pub all_last : {A : Type 0} (P : A → Type 0) (front back : List A) (x : A) → back ≡ front ++ x ∷ [] → All P back → P x
all_last P front back x e all = subst P (get_or_push front x x (length front) refl) ((subst (All P) e all) (length front) x (let n = length-append front (x ∷ []) in omega arith))

pub column_cons : (k : ℕ) (row : List WorkerSeat) (seats : List (List WorkerSeat)) (s : WorkerSeat) → slice_get row k ≡ Some s → worker_column k (row ∷ seats) ≡ s ∷ worker_column k seats
column_cons k row seats s e = ap (λ (o : Option WorkerSeat). cons_option o (worker_column k seats)) e

pub empty_front : {A : Type 0} (xs ys all : List A) → xs ++ ys ≡ all → length xs ≡ 0 → ys ≡ all
empty_front [] ys all e z = e
empty_front (x ∷ xs) ys all e z = absurd (omega arith)
