-- No legal history leads beyond the last position.
use Rattle.std.proofs.Common.{◌≡◌, ℕ, zero, suc, ◌<◌, ◌≤◌, ◌^◌, List, [], ◌∷◌, ◌++◌, refl, sym, subst, append_assoc, append-nil, arith}
use Rattle.std.specs.List.{sum_by}
use Rattle.rb_history.specs.declared.entries.Entry.{Entry}
use Rattle.rb_history.specs.declared.entries.Entry.TheVariants.{Res, Full, Sub, Dis, Take}
use Rattle.rb_history.specs.History.{granted_span, producer_of}
use Rattle.rb_history.specs.RoomRule.{Setup}
use Rattle.rb_history.specs.Legal.{IsLegal, MayFollow}
use Rattle.rb_history.proofs.Laws.{legal-next}
use Rattle.rb_history.proofs.Lists.{sum_by-snoc}

-- if anything was granted, the producer position is within the limit
abbrev IsLimited : Setup → List Entry → Type 0
IsLimited r h = 0 < sum_by granted_span h → producer_of r.start h ≤ 2 ^ 62

limited-next : (r : Setup) (h : List Entry) (e : Entry) → MayFollow r h e → IsLimited r h → IsLimited r (h ++ e ∷ [])
limited-next r h (Res w k n p) m old some = omega (arith, sum_by-snoc granted_span h (Res w k n p), m.3.limit)
limited-next r h (Full w n) m old some = omega (arith, sum_by-snoc granted_span h (Full w n), old (omega (arith, some, sum_by-snoc granted_span h (Full w n))))
limited-next r h (Sub p) m old some = omega (arith, sum_by-snoc granted_span h (Sub p), old (omega (arith, some, sum_by-snoc granted_span h (Sub p))))
limited-next r h (Dis p) m old some = omega (arith, sum_by-snoc granted_span h (Dis p), old (omega (arith, some, sum_by-snoc granted_span h (Dis p))))
limited-next r h (Take p) m old some = omega (arith, sum_by-snoc granted_span h (Take p), old (omega (arith, some, sum_by-snoc granted_span h (Take p))))

limited-rest : (r : Setup) (h t : List Entry) → IsLimited r h → IsLegal r (h ++ t) → IsLimited r (h ++ t)
limited-rest r h [] old l = subst (IsLimited r) (sym (append-nil h)) old
limited-rest r h (e ∷ t) old l =
    let same : (h ++ e ∷ []) ++ t ≡ h ++ e ∷ t = append_assoc h (e ∷ []) t in
    subst (IsLimited r) same (limited-rest r (h ++ e ∷ []) t (limited-next r h e (legal-next r h e t l) old) (subst (IsLegal r) (sym same) l))

pub limited : (r : Setup) (h : List Entry) → IsLegal r h → 0 < sum_by granted_span h → producer_of r.start h ≤ 2 ^ 62
limited r h l = limited-rest r [] h (λ some. absurd (omega arith)) l

pub spans-low : (r : Setup) (h : List Entry) → IsLegal r h → sum_by granted_span h ≤ 2 ^ 62
spans-low r h l = by-sum (sum_by granted_span h) refl
  where
    by-sum : (n : ℕ) → n ≡ sum_by granted_span h → sum_by granted_span h ≤ 2 ^ 62
    by-sum zero is = omega (arith, is)
    by-sum (suc n) is = omega (arith, limited r h l (omega (arith, is)))
