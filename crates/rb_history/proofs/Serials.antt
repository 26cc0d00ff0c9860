-- A worker's serials are 0 to made - 1, in the order of the history.
use Rattle.std.proofs.Common.{◌≡◌, ℕ, zero, suc, ◌+◌, ◌<◌, ◌==◌, false, List, [], ◌∷◌, ◌++◌, None, inl, inr, refl, sym, ap, ◌∙◌, subst, append_assoc, append-nil, add-one, arith}
use Rattle.std.specs.List.{filter_map, Contains}
use Rattle.std.proofs.lemmas.Bool.{cases_Bool, eqb-true}
use Rattle.std.proofs.lemmas.List.Elements.{filter_map-append, Contains-append_cases}
use Rattle.rb_history.specs.declared.entries.Entry.{Entry}
use Rattle.rb_history.specs.declared.entries.Entry.TheVariants.{Res, Full, Sub, Dis, Take}
use Rattle.rb_history.specs.History.{grants, is_grant_of}
use Rattle.rb_history.specs.RoomRule.{Setup}
use Rattle.rb_history.specs.Legal.{IsLegal, MayFollow}
use Rattle.rb_history.proofs.Laws.{legal-next}
use Rattle.rb_history.proofs.Lists.{sum_by-snoc}
use Rattle.rb_history.specs.WorkerCounts.{serial_to, serials_of, numbers_below}
use Rattle.rb_history.proofs.RecordWorkers.{bit}

serials-snoc : (w : ℕ) (h : List Entry) (e : Entry) → serials_of w (h ++ e ∷ []) ≡ serials_of w h ++ filter_map (serial_to w) (e ∷ [])
serials-snoc w h e = filter_map-append (serial_to w) h (e ∷ [])

grants-snoc : (w : ℕ) (h : List Entry) (e : Entry) → grants w (h ++ e ∷ []) ≡ grants w h + bit (is_grant_of w e)
grants-snoc w h e = sum_by-snoc (λ y. bit (is_grant_of w y)) h e

-- an entry that grants the worker nothing
quiet : (w : ℕ) (h : List Entry) (e : Entry) → serial_to w e ≡ None → is_grant_of w e ≡ false → serials_of w h ≡ numbers_below (grants w h) → serials_of w (h ++ e ∷ []) ≡ numbers_below (grants w (h ++ e ∷ []))
quiet w h e none off old =
    let same : grants w (h ++ e ∷ []) ≡ grants w h = grants-snoc w h e ∙ ap (λ b. grants w h + bit b) off ∙ omega arith in
    serials-snoc w h e ∙ rw none (append-nil (serials_of w h)) ∙ old ∙ ap numbers_below (sym same)

serials-next : (r : Setup) (w : ℕ) (h : List Entry) (e : Entry) → MayFollow r h e → serials_of w h ≡ numbers_below (grants w h) → serials_of w (h ++ e ∷ []) ≡ numbers_below (grants w (h ++ e ∷ []))
serials-next r w h (Full v n) m old = quiet w h (Full v n) refl refl old
serials-next r w h (Sub p) m old = quiet w h (Sub p) refl refl old
serials-next r w h (Dis p) m old = quiet w h (Dis p) refl refl old
serials-next r w h (Take p) m old = quiet w h (Take p) refl refl old
serials-next r w h (Res v k n p) m old = elim (cases_Bool (v == w)) [
  | inl hit ↦
      let more : grants w (h ++ Res v k n p ∷ []) ≡ suc (grants w h) = grants-snoc w h (Res v k n p) ∙ ap (λ b. grants w h + bit b) hit ∙ add-one (grants w h) in
      let mine : k ≡ grants w h = m.2 ∙ ap (λ x. grants x h) (eqb-true v w hit) in
      let here : filter_map (serial_to w) (Res v k n p ∷ []) ≡ grants w h ∷ [] = rw hit (ap (λ x. x ∷ []) mine) in
      serials-snoc w h (Res v k n p) ∙ (λ i. old i ++ here i) ∙ ap numbers_below (sym more)
  | inr off ↦ quiet w h (Res v k n p) (rw off refl) off old
]

serials-rest : (r : Setup) (w : ℕ) (h t : List Entry) → serials_of w h ≡ numbers_below (grants w h) → IsLegal r (h ++ t) → serials_of w (h ++ t) ≡ numbers_below (grants w (h ++ t))
serials-rest r w h [] old l = subst (λ x. serials_of w x ≡ numbers_below (grants w x)) (sym (append-nil h)) old
serials-rest r w h (e ∷ t) old l =
    let same : (h ++ e ∷ []) ++ t ≡ h ++ e ∷ t = append_assoc h (e ∷ []) t in
    subst (λ x. serials_of w x ≡ numbers_below (grants w x)) same (serials-rest r w (h ++ e ∷ []) t (serials-next r w h e (legal-next r h e t l) old) (subst (IsLegal r) (sym same) l))

pub serials-ordered : (r : Setup) (w : ℕ) (h : List Entry) → IsLegal r h → serials_of w h ≡ numbers_below (grants w h)
serials-ordered r w h l = serials-rest r w [] h refl l

-- a record's worker is one of the ring's workers
granted-in : (r : Setup) (w k n p : ℕ) (b es : List Entry) → IsLegal r (b ++ es) → Contains es (Res w k n p) → w < r.workers
granted-in r w k n p b [] l is = absurd (omega (arith, is.1))
granted-in r w k n p b (e ∷ es) l is = elim (Contains-append_cases (e ∷ []) es (Res w k n p) is) [
  | inl here ↦ let m : MayFollow r b (Res w k n p) = subst (MayFollow r b) (only e here) (legal-next r b e es l) in m.0
  | inr there ↦ granted-in r w k n p (b ++ e ∷ []) es (subst (IsLegal r) (sym (append_assoc b (e ∷ []) es)) l) there
]
  where
    only : (y : Entry) → Contains (y ∷ []) (Res w k n p) → y ≡ Res w k n p
    only y (zero, h, is) = is
    only y (suc i, h, is) = absurd (omega arith)

pub worker-in : (r : Setup) (w k n p : ℕ) (h : List Entry) → IsLegal r h → Contains h (Res w k n p) → w < r.workers
worker-in r w k n p h l is = granted-in r w k n p [] h l is
