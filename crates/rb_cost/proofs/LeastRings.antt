-- The smallest ring of more than n bytes.
use Rattle.std.proofs.Common.{◌≡◌, ◌⊎◌, inl, inr, ⊎_elim, ℕ, zero, suc, ◌+◌, ◌-◌, ◌<◌, ◌≤◌, ◌^◌, refl, sym, ◌∙◌, ap, subst, Bool, true, false, cond, List, [], ◌∷◌, Option, Some, None, find, arith, lit≤, lit<}
use Rattle.std.proofs.Math.Pow.{pow_mono}
use Rattle.std.specs.Prelude.{nat_lt}
use Rattle.std.specs.List.{AllByRecursion}
use Rattle.std.proofs.lemmas.Bool.{cases_lt, ltb-true}
use Rattle.std.proofs.lemmas.Bool.Decides.{nat_tests}
use Rattle.rb_history.specs.RingModel.{IsRingSize}
use Rattle.rb_cost.specs.RingSize.{ring_sizes, least_ring, IsLeastRing, LeastRingsAreLeast}

-- a number of a list
abbrev IsAmong : ℕ → List ℕ → Type 0
IsAmong n [] = ⊥
IsAmong n (x ∷ xs) = (n ≡ x) ⊎ IsAmong n xs

-- each later number is larger
abbrev AreAscending : List ℕ → Type 0
AreAscending [] = Unit {0}
AreAscending (x ∷ xs) = ((n : ℕ) → IsAmong n xs → x < n) × AreAscending xs

abbrev IsFirstAbove : ℕ → List ℕ → Option ℕ → Type 0
IsFirstAbove n xs None = (other : ℕ) → IsAmong other xs → n < other → ⊥
IsFirstAbove n xs (Some size) = IsAmong size xs × (n < size) × ((other : ℕ) → IsAmong other xs → n < other → size ≤ other)

first_above : (n : ℕ) (xs : List ℕ) → AreAscending xs → IsFirstAbove n xs (find (λ size. nat_lt n size) xs)
first_above n [] ascends = λ other there lt. there
first_above n (x ∷ xs) ascends = by_test (nat_lt n x) refl (first_above n xs ascends.1)
  where
    later : (found : Option ℕ) → (n < x → ⊥) → IsFirstAbove n xs found → IsFirstAbove n (x ∷ xs) found
    later None not h = λ other there lt. ⊎_elim (λ same. not (subst (λ m. n < m) same lt)) (λ rest. h other rest lt) there
    later (Some size) not h = (inr h.0, h.1, λ other there lt. ⊎_elim (λ same. absurd (not (subst (λ m. n < m) same lt))) (λ rest. h.2 other rest lt) there)

    by_test : (b : Bool) → nat_lt n x ≡ b → IsFirstAbove n xs (find (λ size. nat_lt n size) xs) → IsFirstAbove n (x ∷ xs) (cond b (Some x) (find (λ size. nat_lt n size) xs))
    by_test true is rest_is = (inl refl, ltb-true n x is, λ other there lt. ⊎_elim (λ same. omega arith) (λ rest. let above : x < other = ascends.0 other rest in omega arith) there)
    by_test false is rest_is = later (find (λ size. nat_lt n size) xs) (λ lt. let not : x ≤ n = grind (arith, nat_tests) in omega arith) rest_is

-- a number is below each number of a list
above_all : (x : ℕ) (xs : List ℕ) → AllByRecursion (λ n. x < n) xs → (n : ℕ) → IsAmong n xs → x < n
above_all x [] h n there = absurd there
above_all x (y ∷ ys) h n there = ⊎_elim (λ same. subst (λ m. x < m) (sym same) h.0) (λ rest. above_all x ys h.1 n rest) there

-- each number of the list is the size of a ring
all_sizes : AllByRecursion IsRingSize ring_sizes
all_sizes = (((12, refl), lit≤ tt, lit≤ tt), (((13, refl), lit≤ tt, lit≤ tt), (((14, refl), lit≤ tt, lit≤ tt), (((15, refl), lit≤ tt, lit≤ tt), (((16, refl), lit≤ tt, lit≤ tt), (((17, refl), lit≤ tt, lit≤ tt), (((18, refl), lit≤ tt, lit≤ tt), (((19, refl), lit≤ tt, lit≤ tt), (((20, refl), lit≤ tt, lit≤ tt), (((21, refl), lit≤ tt, lit≤ tt), (((22, refl), lit≤ tt, lit≤ tt), (((23, refl), lit≤ tt, lit≤ tt), (((24, refl), lit≤ tt, lit≤ tt), (((25, refl), lit≤ tt, lit≤ tt), (((26, refl), lit≤ tt, lit≤ tt), tt)))))))))))))))

sizes_ascend : AreAscending ring_sizes
sizes_ascend = (above_all 4096 (8192 ∷ 16384 ∷ 32768 ∷ 65536 ∷ 131072 ∷ 262144 ∷ 524288 ∷ 1048576 ∷ 2097152 ∷ 4194304 ∷ 8388608 ∷ 16777216 ∷ 33554432 ∷ 67108864 ∷ []) (lit< tt, (lit< tt, (lit< tt, (lit< tt, (lit< tt, (lit< tt, (lit< tt, (lit< tt, (lit< tt, (lit< tt, (lit< tt, (lit< tt, (lit< tt, (lit< tt, tt)))))))))))))), (above_all 8192 (16384 ∷ 32768 ∷ 65536 ∷ 131072 ∷ 262144 ∷ 524288 ∷ 1048576 ∷ 2097152 ∷ 4194304 ∷ 8388608 ∷ 16777216 ∷ 33554432 ∷ 67108864 ∷ []) (lit< tt, (lit< tt, (lit< tt, (lit< tt, (lit< tt, (lit< tt, (lit< tt, (lit< tt, (lit< tt, (lit< tt, (lit< tt, (lit< tt, (lit< tt, tt))))))))))))), (above_all 16384 (32768 ∷ 65536 ∷ 131072 ∷ 262144 ∷ 524288 ∷ 1048576 ∷ 2097152 ∷ 4194304 ∷ 8388608 ∷ 16777216 ∷ 33554432 ∷ 67108864 ∷ []) (lit< tt, (lit< tt, (lit< tt, (lit< tt, (lit< tt, (lit< tt, (lit< tt, (lit< tt, (lit< tt, (lit< tt, (lit< tt, (lit< tt, tt)))))))))))), (above_all 32768 (65536 ∷ 131072 ∷ 262144 ∷ 524288 ∷ 1048576 ∷ 2097152 ∷ 4194304 ∷ 8388608 ∷ 16777216 ∷ 33554432 ∷ 67108864 ∷ []) (lit< tt, (lit< tt, (lit< tt, (lit< tt, (lit< tt, (lit< tt, (lit< tt, (lit< tt, (lit< tt, (lit< tt, (lit< tt, tt))))))))))), (above_all 65536 (131072 ∷ 262144 ∷ 524288 ∷ 1048576 ∷ 2097152 ∷ 4194304 ∷ 8388608 ∷ 16777216 ∷ 33554432 ∷ 67108864 ∷ []) (lit< tt, (lit< tt, (lit< tt, (lit< tt, (lit< tt, (lit< tt, (lit< tt, (lit< tt, (lit< tt, (lit< tt, tt)))))))))), (above_all 131072 (262144 ∷ 524288 ∷ 1048576 ∷ 2097152 ∷ 4194304 ∷ 8388608 ∷ 16777216 ∷ 33554432 ∷ 67108864 ∷ []) (lit< tt, (lit< tt, (lit< tt, (lit< tt, (lit< tt, (lit< tt, (lit< tt, (lit< tt, (lit< tt, tt))))))))), (above_all 262144 (524288 ∷ 1048576 ∷ 2097152 ∷ 4194304 ∷ 8388608 ∷ 16777216 ∷ 33554432 ∷ 67108864 ∷ []) (lit< tt, (lit< tt, (lit< tt, (lit< tt, (lit< tt, (lit< tt, (lit< tt, (lit< tt, tt)))))))), (above_all 524288 (1048576 ∷ 2097152 ∷ 4194304 ∷ 8388608 ∷ 16777216 ∷ 33554432 ∷ 67108864 ∷ []) (lit< tt, (lit< tt, (lit< tt, (lit< tt, (lit< tt, (lit< tt, (lit< tt, tt))))))), (above_all 1048576 (2097152 ∷ 4194304 ∷ 8388608 ∷ 16777216 ∷ 33554432 ∷ 67108864 ∷ []) (lit< tt, (lit< tt, (lit< tt, (lit< tt, (lit< tt, (lit< tt, tt)))))), (above_all 2097152 (4194304 ∷ 8388608 ∷ 16777216 ∷ 33554432 ∷ 67108864 ∷ []) (lit< tt, (lit< tt, (lit< tt, (lit< tt, (lit< tt, tt))))), (above_all 4194304 (8388608 ∷ 16777216 ∷ 33554432 ∷ 67108864 ∷ []) (lit< tt, (lit< tt, (lit< tt, (lit< tt, tt)))), (above_all 8388608 (16777216 ∷ 33554432 ∷ 67108864 ∷ []) (lit< tt, (lit< tt, (lit< tt, tt))), (above_all 16777216 (33554432 ∷ 67108864 ∷ []) (lit< tt, (lit< tt, tt)), (above_all 33554432 (67108864 ∷ []) (lit< tt, tt), (above_all 67108864 ([]) tt, tt)))))))))))))))

among_powers : (j : ℕ) → j ≤ 14 → IsAmong (2 ^ (12 + j)) ring_sizes
among_powers zero le = inl refl
among_powers (suc zero) le = inr (inl refl)
among_powers (suc (suc zero)) le = inr (inr (inl refl))
among_powers (suc (suc (suc zero))) le = inr (inr (inr (inl refl)))
among_powers (suc (suc (suc (suc zero)))) le = inr (inr (inr (inr (inl refl))))
among_powers (suc (suc (suc (suc (suc zero))))) le = inr (inr (inr (inr (inr (inl refl)))))
among_powers (suc (suc (suc (suc (suc (suc zero)))))) le = inr (inr (inr (inr (inr (inr (inl refl))))))
among_powers (suc (suc (suc (suc (suc (suc (suc zero))))))) le = inr (inr (inr (inr (inr (inr (inr (inl refl)))))))
among_powers (suc (suc (suc (suc (suc (suc (suc (suc zero)))))))) le = inr (inr (inr (inr (inr (inr (inr (inr (inl refl))))))))
among_powers (suc (suc (suc (suc (suc (suc (suc (suc (suc zero))))))))) le = inr (inr (inr (inr (inr (inr (inr (inr (inr (inl refl)))))))))
among_powers (suc (suc (suc (suc (suc (suc (suc (suc (suc (suc zero)))))))))) le = inr (inr (inr (inr (inr (inr (inr (inr (inr (inr (inl refl))))))))))
among_powers (suc (suc (suc (suc (suc (suc (suc (suc (suc (suc (suc zero))))))))))) le = inr (inr (inr (inr (inr (inr (inr (inr (inr (inr (inr (inl refl)))))))))))
among_powers (suc (suc (suc (suc (suc (suc (suc (suc (suc (suc (suc (suc zero)))))))))))) le = inr (inr (inr (inr (inr (inr (inr (inr (inr (inr (inr (inr (inl refl))))))))))))
among_powers (suc (suc (suc (suc (suc (suc (suc (suc (suc (suc (suc (suc (suc zero))))))))))))) le = inr (inr (inr (inr (inr (inr (inr (inr (inr (inr (inr (inr (inr (inl refl)))))))))))))
among_powers (suc (suc (suc (suc (suc (suc (suc (suc (suc (suc (suc (suc (suc (suc zero)))))))))))))) le = inr (inr (inr (inr (inr (inr (inr (inr (inr (inr (inr (inr (inr (inr (inl refl))))))))))))))
among_powers (suc (suc (suc (suc (suc (suc (suc (suc (suc (suc (suc (suc (suc (suc (suc j))))))))))))))) le = absurd (omega arith)

-- and each size of a ring is in the list
among_sizes : (other : ℕ) → IsRingSize other → IsAmong other ring_sizes
among_sizes other ((k, is), least, most) =
    let low : 12 ≤ k = ⊎_elim (λ lt. let small : 2 ^ k ≤ 2 ^ 11 = pow_mono {i = k} {j = 11} (omega arith) in omega arith) (λ le. le) (cases_lt k 12) in
    let high : k ≤ 26 = ⊎_elim (λ lt. let large : 2 ^ 27 ≤ 2 ^ k = pow_mono {i = 27} {j = k} (omega arith) in omega arith) (λ le. le) (cases_lt 26 k) in
    let same : 12 + (k - 12) ≡ k = omega arith in
    subst (λ n. IsAmong n ring_sizes) (ap (λ i. 2 ^ i) same ∙ sym is) (among_powers (k - 12) (omega arith))

size_of : (size : ℕ) (xs : List ℕ) → AllByRecursion IsRingSize xs → IsAmong size xs → IsRingSize size
size_of size [] all there = absurd there
size_of size (x ∷ xs) all there = ⊎_elim (λ same. subst IsRingSize (sym same) all.0) (λ rest. size_of size xs all.1 rest) there

pub least_rings : LeastRingsAreLeast
least_rings n = by_found (least_ring n) (first_above n ring_sizes sizes_ascend)
  where
    by_found : (found : Option ℕ) → IsFirstAbove n ring_sizes found → IsLeastRing n found
    by_found None h = λ other is lt. h other (among_sizes other is) lt
    by_found (Some size) h = (size_of size ring_sizes all_sizes h.0, h.1, λ other is lt. h.2 other (among_sizes other is) lt)
