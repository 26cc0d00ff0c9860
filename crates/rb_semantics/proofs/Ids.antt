-- Ids, and the references that have them.
use Rattle.std.proofs.Common.{◌≡◌, ◌≢◌, ℕ, ◌<◌, Bool, true, false, eqb, List, [], ◌∷◌, ◌++◌, Option, Some, None, map, filter, find, sym, ap, ◌∙◌, refl, arith, eq-eqb, ◌⊎◌, inl, inr}
use Rattle.std.specs.List.{AllByRecursion}
use Rattle.std.proofs.lemmas.Bool.{cases_eq}
use Rattle.std.proofs.lemmas.Bool.Decides.{nat_tests}
use Rattle.rb_verifier.specs.declared.references.Reference.{Reference}
use Rattle.rb_verifier.specs.References.{AreEarlier, has_id, other_than, tested_in}
use Rattle.rb_semantics.specs.Agreement.{IsTested}

pub not_equal : (m n : ℕ) → m ≢ n → eqb m n ≡ false
not_equal m n ne = grind (arith, nat_tests)

pub eq_cases : (m n : ℕ) → ((eqb m n ≡ true) × (m ≡ n)) ⊎ ((eqb m n ≡ false) × (m ≢ n))
eq_cases m n = elim (cases_eq m n) [ inl e ↦ inl (eq-eqb m n e, e) | inr e ↦ inr (not_equal m n e, e) ]

-- no reference has this id
abbrev pub IsApart : ℕ → List Reference → Type 0
IsApart id held = AllByRecursion (λ q. q.id ≢ id) held

pub apart_later : (id : ℕ) (held : List Reference) → AllByRecursion (λ later. id < later.id) held → IsApart id held
apart_later id [] h = tt
apart_later id (q ∷ held) h = (let lt : id < q.id = h.0 in omega arith, apart_later id held h.1)

pub apart_earlier : (id : ℕ) (held : List Reference) → AreEarlier id held → IsApart id held
apart_earlier id [] h = tt
apart_earlier id (q ∷ held) h = (let lt : q.id < id = h.0 in omega arith, apart_earlier id held h.1)

-- an id that some reference has differs from one that none has
pub found_apart : (sure : Bool) (m n : ℕ) (held : List Reference) → IsApart n held → IsTested sure (find (has_id m) held) → m ≢ n
found_apart sure m n [] h t = absurd t
found_apart sure m n (q ∷ held) h t =
    elim (eq_cases q.id m) [ inl k ↦ (λ e. h.0 (k.1 ∙ e)) | inr k ↦ found_apart sure m n held h.1 (rw k.0 at t) ]

-- a reference that was tested is not one that was not
is_not : (o : Option Reference) → IsTested true o → IsTested false o → ⊥
is_not None h k = h
is_not (Some q) h k = let f : true ≡ false = sym h ∙ k in cc

pub tested_apart : (m n : ℕ) (held : List Reference) → IsTested true (find (has_id m) held) → IsTested false (find (has_id n) held) → n ≢ m
tested_apart m n held h k e = is_not (find (has_id m) held) h (let f : find (has_id n) held ≡ find (has_id m) held = ap (λ i. find (has_id i) held) e in rw f at k)

pub found_pushed : (sure : Bool) (m : ℕ) (q : Reference) (held : List Reference) → IsTested sure (find (has_id m) held) → IsTested sure (find (has_id m) (held ++ q ∷ []))
found_pushed sure m q [] h = absurd h
found_pushed sure m q (r ∷ held) h = elim (eq_cases r.id m) [ inl k ↦ rw k.0 (rw k.0 at h) | inr k ↦ rw k.0 (found_pushed sure m q held (rw k.0 at h)) ]

pub found_new : (q : Reference) (held : List Reference) → IsApart q.id held → find (has_id q.id) (held ++ q ∷ []) ≡ Some q
found_new q [] h = rw (eq-eqb q.id q.id refl) refl
found_new q (r ∷ held) h = rw (not_equal r.id q.id h.0) (found_new q held h.1)

pub found_without : (n m : ℕ) (held : List Reference) → n ≢ m → find (has_id n) (filter (other_than m) held) ≡ find (has_id n) held
found_without n m [] ne = refl
found_without n m (q ∷ held) ne =
    elim (eq_cases q.id m) [
      | inl h ↦ rw h.0 (rw (not_equal q.id n (λ e. ne (sym e ∙ h.1))) (found_without n m held ne))
      | inr h ↦ rw h.0 (elim (eq_cases q.id n) [ inl k ↦ rw k.0 refl | inr k ↦ rw k.0 (found_without n m held ne) ])
    ]

pub found_tested_other : (n m : ℕ) (held : List Reference) → n ≢ m → find (has_id n) (map (tested_in m) held) ≡ find (has_id n) held
found_tested_other n m [] ne = refl
found_tested_other n m (q ∷ held) ne =
    elim (eq_cases q.id m) [
      | inl h ↦ rw h.0 (rw (not_equal q.id n (λ e. ne (sym e ∙ h.1))) (found_tested_other n m held ne))
      | inr h ↦ rw h.0 (elim (eq_cases q.id n) [ inl k ↦ rw k.0 refl | inr k ↦ rw k.0 (found_tested_other n m held ne) ])
    ]

pub found_tested_same : (sure : Bool) (m : ℕ) (held : List Reference) → IsTested sure (find (has_id m) held) → IsTested true (find (has_id m) (map (tested_in m) held))
found_tested_same sure m [] h = absurd h
found_tested_same sure m (q ∷ held) h =
    elim (eq_cases q.id m) [ inl k ↦ rw k.0 (rw k.0 refl) | inr k ↦ rw k.0 (rw k.0 (found_tested_same sure m held (rw k.0 at h))) ]
