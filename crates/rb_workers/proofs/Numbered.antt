-- Seats in the order of their workers' numbers.
use Rattle.std.proofs.Common.{◌≡◌, ℕ, zero, suc, ◌<◌, ◌==◌, List, [], ◌∷◌, Bool, true, false, ◌||◌, ◌&&◌, length, map, refl, ap, sym, ◌∙◌, length-append, ⊎_elim, arith}
use Rattle.std.proofs.lemmas.List.{length-map}
use Rattle.std.proofs.lemmas.Bool.{true≢false}
use Rattle.std.proofs.lemmas.Bool.Decides.{eqb_tells}
use Rattle.std.proofs.lemmas.List.Folds.{list_any-append}
use Rattle.std.specs.List.{list_any}
use Rattle.std.specs.Prelude.{All}
use Rattle.rb_history.specs.WorkerCounts.{numbers_below}
use Rattle.rb_ledger.specs.Seats.{Shared, WorkerSeat, has_seat, HasAll, are_tagged}
use Rattle.rb_workers.specs.declared.opened.Opened.{Opened}
use Rattle.rb_jobs.specs.SeatHelpers.{IsAt}
use Rattle.rb_workers.specs.Opened.{IsOpened}

numbers_length : (n : ℕ) → length (numbers_below n) ≡ n
numbers_length zero = refl
numbers_length (suc n) = let e = numbers_length n in let a = length-append (numbers_below n) (n ∷ []) in omega arith

-- there are as many seats as workers
pub seats_length : {S : Type 0} (position : S → ℕ) (count : ℕ) (o : Opened S) → IsOpened position count o → length o.seats.items ≡ count
seats_length position count o is = sym (length-map o.seats.items (λ (s : WorkerSeat). s.worker)) ∙ (ap length is.numbered ∙ numbers_length count)

or_left : (a b : Bool) → a ≡ true → (a || b) ≡ true
or_left true b e = refl
or_left false b e = absurd (true≢false (sym e))

or_right : (a b : Bool) → b ≡ true → (a || b) ≡ true
or_right true b e = refl
or_right false b e = e

any_number : (n w : ℕ) → w < n → list_any (λ k. k == w) (numbers_below n) ≡ true
any_number zero w below = absurd (omega arith)
any_number (suc n) w below =
    list_any-append (λ k. k == w) (numbers_below n) (n ∷ [])
    ∙ ⊎_elim
    (λ same. or_right (list_any (λ k. k == w) (numbers_below n)) ((n == w) || false) (or_left (n == w) false same.0))
    (λ other. let no = other.1 in or_left (list_any (λ k. k == w) (numbers_below n)) ((n == w) || false) (any_number n w (omega (arith, no))))
    (eqb_tells n w)

any_worker : (w : ℕ) (seats : List WorkerSeat) → has_seat w seats ≡ list_any (λ n. n == w) (map (λ s. s.worker) seats)
any_worker w [] = refl
any_worker w (s ∷ seats) = ap (λ b. (s.worker == w) || b) (any_worker w seats)

-- each worker has a seat
pub has_all : (count : ℕ) (seats : List WorkerSeat) → map (λ s. s.worker) seats ≡ numbers_below count → HasAll count seats
has_all count seats numbered w below = any_worker w seats ∙ (ap (list_any (λ n. n == w)) numbered ∙ any_number count w below)

-- all seats have their ring's tag
pub tagged : (ring : Shared) (seats : List WorkerSeat) → All (IsAt ring) seats → are_tagged ring.tag seats ≡ true
tagged ring [] at = refl
tagged ring (s ∷ seats) at = and_both (s.tag == ring.tag) (are_tagged ring.tag seats) (tests_true s.tag ring.tag (at 0 s (omega arith)).0) (tagged ring seats (λ k d below. at (suc k) d (omega arith)))
  where
    and_both : (a b : Bool) → a ≡ true → b ≡ true → (a && b) ≡ true
    and_both true b e f = f
    and_both false b e f = absurd (true≢false (sym e))

    tests_true : (a b : ℕ) → a ≡ b → (a == b) ≡ true
    tests_true a b e = ⊎_elim (λ same. same.0) (λ other. absurd (other.1 e)) (eqb_tells a b)
