-- Turns fit the ring for which they are chosen.
use Rattle.std.proofs.Common.{◌≡◌, ◌≢◌, ⊎_elim, ℕ, ◌*◌, ◌<◌, ◌≤◌, refl, subst, Bool, true, false, cond, List, [], ◌∷◌, Some, None, find, arith}
use Rattle.std.specs.Prelude.{nat_lt}
use Rattle.std.specs.List.{AllByRecursion}
use Rattle.std.proofs.lemmas.Bool.{cases_lt, ltb-true}
use Rattle.std.proofs.lemmas.Bool.Decides.{nat_tests}
use Rattle.rb_cost.specs.RingSize.{IsLeastRing}
use Rattle.rb_cost.specs.TurnSize.{turn_lengths, or_one, IsTurnLength, TurnsFit, LeastRingsHaveTurns}
use Rattle.rb_cost.proofs.LeastRings.{least_rings}

module _ (size each : ℕ) (one : each < size) where
  -- a length that is found is one of the list, and fits
  abbrev Fits : ℕ → Type 0
  Fits n = (1 ≤ n) × (n ≤ 16) × (n * each < size)

  found_fits : (ns : List ℕ) → AllByRecursion (λ n. (1 ≤ n) × (n ≤ 16)) ns → Fits (or_one (find (λ n. nat_lt (2 * n * each) size) ns))
  found_fits [] all = (omega arith, omega arith, omega arith)
  found_fits (n ∷ ns) all = by_test (nat_lt (2 * n * each) size) refl (found_fits ns all.1)
    where
      by_test : (b : Bool) → nat_lt (2 * n * each) size ≡ b → Fits (or_one (find (λ n. nat_lt (2 * n * each) size) ns)) → Fits (or_one (cond b (Some n) (find (λ n. nat_lt (2 * n * each) size) ns)))
      by_test true is rest = let lt : 2 * n * each < size = ltb-true (2 * n * each) size is in (all.0.0, all.0.1, omega arith)
      by_test false is rest = rest

by_size : (size workers cost : ℕ) (b : Bool) → nat_lt (workers * cost) size ≡ b → IsTurnLength size workers cost (cond b (Some (or_one (find (λ n. nat_lt (2 * n * (workers * cost)) size) turn_lengths))) None)
by_size size workers cost true is =
    let fits = found_fits size (workers * cost) (ltb-true (workers * cost) size is) turn_lengths ((omega arith, omega arith), ((omega arith, omega arith), ((omega arith, omega arith), ((omega arith, omega arith), tt)))) in
    let n : ℕ = or_one (find (λ n. nat_lt (2 * n * (workers * cost)) size) turn_lengths) in
    let product : n * (workers * cost) < size = fits.2 in
    (fits.0, fits.1, omega arith)
by_size size workers cost false is = grind (arith, nat_tests)

pub turns_fit : TurnsFit
turns_fit size workers cost = by_size size workers cost (nat_lt (workers * cost) size) refl

-- turns are possible if and only if one context of every worker fits
some_turn : (size workers cost : ℕ) (b : Bool) (n : ℕ) → workers * cost < size → nat_lt (workers * cost) size ≡ b → cond b (Some n) None ≢ None
some_turn size workers cost true n lt is = λ e. cc
some_turn size workers cost false n lt is = absurd (let not : size ≤ workers * cost = grind (arith, nat_tests) in omega arith)

no_turn : (size workers cost : ℕ) (b : Bool) (n : ℕ) → size ≤ workers * cost → nat_lt (workers * cost) size ≡ b → cond b (Some n) None ≡ None
no_turn size workers cost true n le is = absurd (let lt : workers * cost < size = ltb-true (workers * cost) size is in omega arith)
no_turn size workers cost false n le is = refl

pub least_rings_have_turns : LeastRingsHaveTurns
least_rings_have_turns size workers cost least ring is =
    let smallest : IsLeastRing (workers * cost) (Some least) = subst (IsLeastRing (workers * cost)) is (least_rings (workers * cost)) in
    let n : ℕ = or_one (find (λ n. nat_lt (2 * n * (workers * cost)) size) turn_lengths) in
    let more : workers * cost < least = smallest.1 in (
      λ enough. some_turn size workers cost (nat_lt (workers * cost) size) n (omega arith) refl,
      λ small.
          ⊎_elim
          (λ fits. let low : least ≤ size = smallest.2 size ring fits in absurd (omega arith))
          (λ over. no_turn size workers cost (nat_lt (workers * cost) size) n over refl)
          (cases_lt (workers * cost) size),
    )
