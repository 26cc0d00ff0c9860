-- Each record is submitted or discarded at most once, and only after it was granted.
use Rattle.std.proofs.Common.{◌≡◌, ℕ, ◌+◌, ◌≤◌, ◌==◌, ◌&&◌, ◌||◌, Bool, true, false, List, [], ◌∷◌, ◌++◌, inl, inr, refl, sym, ap, ◌∙◌, subst, append_assoc, append-nil, add-zero, zero-add, arith}
use Rattle.std.specs.List.{count_by, Contains}
use Rattle.std.proofs.lemmas.Bool.{cases_Bool, cases_eq, eq-eqb, ne_eqb, or_from, false_from_ne_true}
use Rattle.std.proofs.lemmas.List.Elements.{Contains-append_right}
use Rattle.rb_history.specs.declared.entries.Entry.{Entry}
use Rattle.rb_history.specs.declared.entries.Entry.TheVariants.{Res, Full, Sub, Dis, Take}
use Rattle.rb_history.specs.History.{is_grant_at, is_grant_of, is_submit, is_discard, is_submitted_at, is_discarded_at, is_granted_at}
use Rattle.rb_history.specs.RoomRule.{Setup}
use Rattle.rb_history.specs.Legal.{IsLegal, MayFollow}
use Rattle.rb_history.proofs.Laws.{kept-from-legal, legal-front, legal-next}
use Rattle.rb_history.proofs.Lists.{list_any-snoc, or-false, sum_by-cons, sum_by-snoc, sum_by-add, sum_by-agree}
use Rattle.rb_history.specs.WorkerCounts.{is_record_of, is_submit_of, is_discard_of, tally_of}
use Rattle.rb_history.proofs.RecordWorkers.{bit, grant-tells, granted-once}

-- the entry submits or discards a record whose position passes the test
abbrev pub settles_where : (ℕ → Bool) → Entry → Bool
settles_where f (Sub p) = f p
settles_where f (Dis p) = f p
settles_where f _ = false

-- the entry grants such a record
abbrev pub grants_where : (ℕ → Bool) → Entry → Bool
grants_where f (Res w k n p) = f p
grants_where f _ = false

abbrev pub settles_at : ℕ → Entry → Bool
settles_at p e = is_submit p e || is_discard p e

-- the record at p was submitted or discarded
abbrev pub settled : List Entry → ℕ → Bool
settled h p = is_submitted_at h p || is_discarded_at h p

abbrev pub settled_where : (ℕ → Bool) → List Entry → ℕ → Bool
settled_where f h p = f p && settled h p

swap : (a b c d : Bool) → ((a || c) || (b || d)) ≡ ((a || b) || (c || d))
swap true b c d = refl
swap false true true d = refl
swap false true false d = refl
swap false false c d = refl

and-no : (b : Bool) → (b && false) ≡ false
and-no true = refl
and-no false = refl

settled-snoc : (h : List Entry) (e : Entry) (q : ℕ) → settled (h ++ e ∷ []) q ≡ (settled h q || settles_at q e)
settled-snoc h e q = (λ i. list_any-snoc (is_submit q) h e i || list_any-snoc (is_discard q) h e i) ∙ swap (is_submitted_at h q) (is_discarded_at h q) (is_submit q e) (is_discard q e)

-- the entry counts equally in both histories
module _ (f : ℕ → Bool) (h k : List Entry) where
  same-where : ((q : ℕ) → settled k q ≡ settled h q) → (y : Entry) → bit (grants_where (settled_where f k) y) ≡ bit (grants_where (settled_where f h) y)
  same-where a (Res w s n q) = ap (λ b. bit (f q && b)) (a q)
  same-where a (Full w n) = refl
  same-where a (Sub q) = refl
  same-where a (Dis q) = refl
  same-where a (Take q) = refl

  module _ (x : ℕ) (more : (q : ℕ) → settled k q ≡ (settled h q || (x == q))) where
    elsewhere : (q : ℕ) → (q ≡ x → ⊥) → settled k q ≡ settled h q
    elsewhere q other = more q ∙ ap (λ b. settled h q || b) (ne_eqb x q (λ e. other (sym e))) ∙ or-false (settled h q)

    one-where : settled h x ≡ false → f x ≡ true → (y : Entry) → bit (grants_where (settled_where f k) y) ≡ bit (grants_where (settled_where f h) y) + bit (is_grant_at x y)
    one-where off hit (Res w s n q) = elim (cases_eq q x) [
      | inl same ↦
          let passes : f q ≡ true = ap f same ∙ hit in
          let none : settled h q ≡ false = ap (settled h) same ∙ off in
          rw (more q, passes, none, eq-eqb x q (sym same), eq-eqb q x same) refl
      | inr other ↦ rw (elsewhere q other, ne_eqb q x other) (sym (add-zero _))
    ]
    one-where off hit (Full w n) = refl
    one-where off hit (Sub q) = refl
    one-where off hit (Dis q) = refl
    one-where off hit (Take q) = refl

    none-where : f x ≡ false → (y : Entry) → bit (grants_where (settled_where f k) y) ≡ bit (grants_where (settled_where f h) y)
    none-where miss (Res w s n q) = elim (cases_eq q x) [
      | inl same ↦ let fails : f q ≡ false = ap f same ∙ miss in rw fails refl
      | inr other ↦ ap (λ b. bit (f q && b)) (elsewhere q other)
    ]
    none-where miss (Full w n) = refl
    none-where miss (Sub q) = refl
    none-where miss (Dis q) = refl
    none-where miss (Take q) = refl

-- the number of entries that settle such records is the number of granted records that are settled
abbrev IsEven : (ℕ → Bool) → List Entry → Type 0
IsEven f h = count_by (settles_where f) h ≡ count_by (grants_where (settled_where f h)) h

module _ (r : Setup) (f : ℕ → Bool) (h : List Entry) (l : IsLegal r h) (old : IsEven f h) where
  even-quiet : (e : Entry) → ((q : ℕ) → settles_at q e ≡ false) → settles_where f e ≡ false → grants_where (settled_where f (h ++ e ∷ [])) e ≡ false → IsEven f (h ++ e ∷ [])
  even-quiet e off still none =
      let k = h ++ e ∷ [] in
      let same = same-where f h k (λ q. settled-snoc h e q ∙ ap (λ b. settled h q || b) (off q) ∙ or-false (settled h q)) in
      let no_more : bit (settles_where f e) ≡ 0 = ap bit still in
      let no_grant : bit (grants_where (settled_where f k) e) ≡ 0 = ap bit none in
      omega (
        arith,
        old,
        no_more,
        no_grant,
        sum_by-snoc (λ y. bit (settles_where f y)) h e,
        sum_by-snoc (λ y. bit (grants_where (settled_where f k) y)) h e,
        sum_by-agree (λ y. bit (grants_where (settled_where f h) y)) (λ y. bit (grants_where (settled_where f k) y)) same h,
      )

  even-settle : (e : Entry) (x : ℕ) → ((q : ℕ) → settles_at q e ≡ (x == q)) → settles_where f e ≡ f x → grants_where (settled_where f (h ++ e ∷ [])) e ≡ false → is_granted_at h x ≡ true → settled h x ≡ false → IsEven f (h ++ e ∷ [])
  even-settle e x at is none g off =
      let k = h ++ e ∷ [] in
      let more : (q : ℕ) → settled k q ≡ (settled h q || (x == q)) = λ q. settled-snoc h e q ∙ ap (λ b. settled h q || b) (at q) in
      let no_grant : bit (grants_where (settled_where f k) e) ≡ 0 = ap bit none in
      let one = (kept-from-legal r h l).single x g in
      elim (cases_Bool (f x)) [
        | inl hit ↦
            let counts : bit (settles_where f e) ≡ 1 = ap bit (is ∙ hit) in
            omega (
              arith,
              old,
              counts,
              no_grant,
              one,
              sum_by-snoc (λ y. bit (settles_where f y)) h e,
              sum_by-snoc (λ y. bit (grants_where (settled_where f k) y)) h e,
              sum_by-add (λ y. bit (grants_where (settled_where f h) y)) (λ y. bit (is_grant_at x y)) (λ y. bit (grants_where (settled_where f k) y)) (one-where f h k x more off hit) h,
            )
        | inr miss ↦
            let counts : bit (settles_where f e) ≡ 0 = ap bit (is ∙ miss) in
            omega (
              arith,
              old,
              counts,
              no_grant,
              sum_by-snoc (λ y. bit (settles_where f y)) h e,
              sum_by-snoc (λ y. bit (grants_where (settled_where f k) y)) h e,
              sum_by-agree (λ y. bit (grants_where (settled_where f h) y)) (λ y. bit (grants_where (settled_where f k) y)) (none-where f h k x more miss) h,
            )
      ]

  -- a record that is granted now was not settled before
  fresh-free : (w k n p : ℕ) → IsLegal r (h ++ Res w k n p ∷ []) → settled h p ≡ false
  fresh-free w k n p l' = false_from_ne_true (settled h p) (λ is.
      let before = (kept-from-legal r h l).single p ((kept-from-legal r h l).named p is) in
      let here : bit (is_grant_at p (Res w k n p)) ≡ 1 = ap bit (eq-eqb p p refl) in
      let most = granted-once r (h ++ Res w k n p ∷ []) p l' in
      omega (arith, before, here, most, sum_by-snoc (λ y. bit (is_grant_at p y)) h (Res w k n p)))

  even-next : (e : Entry) → IsLegal r (h ++ e ∷ []) → MayFollow r h e → IsEven f (h ++ e ∷ [])
  even-next (Full w n) l' m = even-quiet (Full w n) (λ q. refl) refl refl
  even-next (Take p) l' m = even-quiet (Take p) (λ q. refl) refl refl
  even-next (Res w k n p) l' m =
      let free : settled (h ++ Res w k n p ∷ []) p ≡ false = settled-snoc h (Res w k n p) p ∙ or-false (settled h p) ∙ fresh-free w k n p l' in
      even-quiet (Res w k n p) (λ q. refl) refl (ap (λ b. f p && b) free ∙ and-no (f p))
  even-next (Sub p) l' m = even-settle (Sub p) p (λ q. or-false (p == q)) refl refl m.0 (or_from (is_submitted_at h p) (is_discarded_at h p) m.1 m.2)
  even-next (Dis p) l' m = even-settle (Dis p) p (λ q. refl) refl refl m.0 (or_from (is_submitted_at h p) (is_discarded_at h p) m.1 m.2)

even-rest : (r : Setup) (f : ℕ → Bool) (h t : List Entry) → IsEven f h → IsLegal r (h ++ t) → IsEven f (h ++ t)
even-rest r f h [] old l = subst (IsEven f) (sym (append-nil h)) old
even-rest r f h (e ∷ t) old l =
    let same : (h ++ e ∷ []) ++ t ≡ h ++ e ∷ t = append_assoc h (e ∷ []) t in
    let l' : IsLegal r ((h ++ e ∷ []) ++ t) = subst (IsLegal r) (sym same) l in
    subst (IsEven f) same (even-rest r f (h ++ e ∷ []) t (even-next r f h (legal-front r h (e ∷ t) l) old e (legal-front r (h ++ e ∷ []) t l') (legal-next r h e t l)) l')

pub even : (r : Setup) (f : ℕ → Bool) (h : List Entry) → IsLegal r h → count_by (settles_where f) h ≡ count_by (grants_where (settled_where f h)) h
even r f h l = even-rest r f [] h refl l

-- ---- one worker

-- if one test passes no entry that the other rejects, it counts at most as many
count-most : (t u : Entry → Bool) (es : List Entry) → ((x : Entry) → Contains es x → bit (t x) ≤ bit (u x)) → count_by t es ≤ count_by u es
count-most t u [] less = omega arith
count-most t u (x ∷ es) less =
    let rest = count-most t u es (λ y is. less y (Contains-append_right (x ∷ []) es y is)) in
    omega (arith, rest, less x (0, omega arith, refl), sum_by-cons (λ y. bit (t y)) x es, sum_by-cons (λ y. bit (u y)) x es)

and-most : (b c d : Bool) → d ≡ b → bit (b && c) ≤ bit d
and-most true true d is = omega (arith, ap bit is)
and-most true false d is = omega arith
and-most false c d is = omega arith

module _ (r : Setup) (h : List Entry) (l : IsLegal r h) (w : ℕ) where
  own-most : (x : Entry) → Contains h x → bit (grants_where (settled_where (is_record_of w h) h) x) ≤ bit (is_grant_of w x)
  own-most (Res v k n p) is = and-most (is_record_of w h p) (settled h p) (v == w) (grant-tells h v k n p w is (granted-once r h p l))
  own-most (Full v n) is = omega arith
  own-most (Sub p) is = omega arith
  own-most (Dis p) is = omega arith
  own-most (Take p) is = omega arith

  either : (x : Entry) → bit (settles_where (is_record_of w h) x) ≡ bit (is_submit_of w h x) + bit (is_discard_of w h x)
  either (Res v k n p) = refl
  either (Full v n) = refl
  either (Sub p) = sym (add-zero _)
  either (Dis p) = sym (zero-add _)
  either (Take p) = refl

  pub settled-most : (tally_of w h).submitted + (tally_of w h).discarded ≤ (tally_of w h).made
  settled-most =
      let parts = sum_by-add (λ x. bit (is_submit_of w h x)) (λ x. bit (is_discard_of w h x)) (λ x. bit (settles_where (is_record_of w h) x)) either h in
      let most = count-most (grants_where (settled_where (is_record_of w h) h)) (is_grant_of w) h own-most in
      omega (arith, parts, most, even r (is_record_of w h) h l)
