-- Bytes that are written into the front of a list, and read back from it.
use Rattle.std.proofs.Common.{◌≡◌, ℕ, zero, suc, ◌+◌, ◌≤◌, List, [], ◌∷◌, ◌++◌, length, take, drop, sym, ◌∙◌, ap, refl}
use native.Mathlib.Omega.{arith}
use Rattle.std.proofs.lemmas.List.{take-append-le, length-take-le}
use Rattle.rb_lend.specs.Ranges.{in_place_of, written_at}

-- the elements after the front do not affect it
front_alone : (n : ℕ) (w d : List ℕ) → take n (w ++ drop (length w) (take n d)) ≡ take n (w ++ drop (length w) d)
front_alone zero w d = refl
front_alone (suc n) [] [] = refl
front_alone (suc n) [] (x ∷ d) = ap (λ l. x ∷ l) (front_alone n [] d)
front_alone (suc n) (y ∷ w) [] = refl
front_alone (suc n) (y ∷ w) (x ∷ d) = ap (λ l. y ∷ l) (front_alone n w d)

written_in_front : (at n : ℕ) (d w : List ℕ) → take n (written_at at (take n d) w) ≡ take n (written_at at d w)
written_in_front zero n d w = front_alone n w d
written_in_front (suc at) zero d w = refl
written_in_front (suc at) (suc n) [] w = refl
written_in_front (suc at) (suc n) (x ∷ d) w = ap (λ l. x ∷ l) (written_in_front at n d w)

-- the length does not shrink
covered : (w s : List ℕ) → length s ≤ length (w ++ drop (length w) s)
covered [] s = omega arith
covered (y ∷ w) [] = omega arith
covered (y ∷ w) (x ∷ s) = let e = covered w s in omega (arith, e)

none_lost : (at : ℕ) (s w : List ℕ) → length s ≤ length (written_at at s w)
none_lost zero s w = covered w s
none_lost (suc at) [] w = omega arith
none_lost (suc at) (x ∷ s) w = let e = none_lost at s w in omega (arith, e)

-- the front of a list after a write is the front with that write
pub front_written : (at n : ℕ) (d w : List ℕ) → n ≤ length d
    → take n (written_at at d w) ≡ in_place_of (take n d) (written_at at (take n d) w)
front_written at n d w le =
    let s = take n d in
    let long : length s ≡ n = length-take-le n d le in
    let all = written_at at s w in
    sym (written_in_front at n d w)
    ∙ ap (λ k. take k all) (sym long)
    ∙ sym (take-append-le (length s) all (drop (length all) s) (none_lost at s w))

-- a part of the front is that part of the list
pub part_of_front : (at len n : ℕ) (d : List ℕ) → at + len ≤ n → take len (drop at (take n d)) ≡ take len (drop at d)
part_of_front at zero n d le = refl
part_of_front at (suc len) zero d le = absurd (omega (arith, le))
part_of_front zero (suc len) (suc n) [] le = refl
part_of_front zero (suc len) (suc n) (x ∷ d) le = ap (λ l. x ∷ l) (part_of_front zero len n d (omega (arith, le)))
part_of_front (suc at) (suc len) (suc n) [] le = refl
part_of_front (suc at) (suc len) (suc n) (x ∷ d) le = part_of_front at (suc len) n d (omega (arith, le))
