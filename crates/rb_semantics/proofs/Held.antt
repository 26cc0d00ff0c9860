-- The held records are still those of the references after each change.
use Rattle.std.proofs.Common.{◌≡◌, ℕ, ◌+◌, ◌≤◌, true, false, List, [], ◌∷◌, ◌++◌, Some, None, length, map, filter, find, sym, ap, subst, ◌∙◌, refl, arith, eq-eqb, inl, inr}
use Rattle.rb_verifier.specs.declared.references.Reference.{Reference}
use Rattle.rb_verifier.specs.References.{IsAscending, has_id, other_than, tested_in}
use Rattle.rb_semantics.specs.ProgramMemory.{record_named, without_record, with_bytes}
use Rattle.rb_semantics.specs.Agreement.{AreHeld}
use Rattle.rb_semantics.proofs.Ids.{not_equal, eq_cases, IsApart, apart_later}
use Rattle.rb_semantics.proofs.Records.{without_none}

abbrev pub Records : Type 0
Records = List (ℕ × List ℕ)

-- without a reference of an id, there is no record with it
pub held_absent : (id : ℕ) (held : List Reference) (rs : Records) → IsApart id held → AreHeld held rs → record_named id rs ≡ None
held_absent id [] [] a h = refl
held_absent id [] (r ∷ rs) a h = absurd h
held_absent id (q ∷ held) [] a h = refl
held_absent id (q ∷ held) (r ∷ rs) a h =
    elim h [
      | inl there ↦ rw (not_equal r.0 id (λ e. a.0 (there.0 ∙ e))) (held_absent id held rs a.1 there.2)
      | inr missing ↦ held_absent id held (r ∷ rs) a.1 missing.1
    ]

-- there are no more records than references
pub held_count : (held : List Reference) (rs : Records) → AreHeld held rs → length rs ≤ length held
held_count [] [] h = omega arith
held_count [] (r ∷ rs) h = absurd h
held_count (q ∷ held) [] h = omega arith
held_count (q ∷ held) (r ∷ rs) h =
    elim h [
      | inl there ↦ (let le : length rs ≤ length held = held_count held rs there.2 in omega arith)
      | inr missing ↦ (let le : length (r ∷ rs) ≤ length held = held_count held (r ∷ rs) missing.1 in omega arith)
    ]

-- the record of a reference that was tested
pub held_found : (id : ℕ) (held : List Reference) (rs : Records) (q : Reference) → find (has_id id) held ≡ Some q → q.sure ≡ true → AreHeld held rs → (b : List ℕ) × (record_named id rs ≡ Some b) × (length b ≡ q.size)
held_found id [] rs q f s h = absurd (cc)
held_found id (x ∷ held) [] q f s h =
    elim (eq_cases x.id id) [
      | inl k ↦ absurd (let e : Some x ≡ Some q = rw k.0 at f in let w : x.sure ≡ false = h.0 in cc)
      | inr k ↦ held_found id held [] q (rw k.0 at f) s h.1
    ]
held_found id (x ∷ held) (r ∷ rs) q f s h =
    elim (eq_cases x.id id) [
      | inl k ↦ (let e : Some x ≡ Some q = rw k.0 at f in elim h [
        | inl there ↦ (r.1, rw (eq-eqb r.0 id (sym there.0 ∙ k.1)) refl, (let w : length r.1 ≡ x.size = there.1 in cc))
        | inr missing ↦ absurd (let w : x.sure ≡ false = missing.0 in cc)
      ])
      | inr k ↦ elim h [
        | inl there ↦ (let rest = held_found id held rs q (rw k.0 at f) s there.2 in (rest.0, rw (not_equal r.0 id (λ e. k.1 (there.0 ∙ e))) rest.1, rest.2))
        | inr missing ↦ held_found id held (r ∷ rs) q (rw k.0 at f) s missing.1
      ]
    ]

-- a reference whose record is missing
pub held_missing : (q : Reference) (held : List Reference) (rs : Records) → q.sure ≡ false → AreHeld held rs → AreHeld (q ∷ held) rs
held_missing q held [] s h = (s, h)
held_missing q held (r ∷ rs) s h = inr (s, h)

-- dropping the reference of a missing record
pub held_null : (id : ℕ) (held : List Reference) (rs : Records) → record_named id rs ≡ None → AreHeld held rs → AreHeld (filter (other_than id) held) rs
held_null id [] rs n h = h
held_null id (q ∷ held) [] n h =
    elim (eq_cases q.id id) [ inl k ↦ rw k.0 (held_null id held [] n h.1) | inr k ↦ rw k.0 (h.0, held_null id held [] n h.1) ]
held_null id (q ∷ held) (r ∷ rs) n h =
    elim (eq_cases r.0 id) [
      | inl g ↦ absurd (let f = rw g.0 at n in cc)
      | inr g ↦ elim h [
        | inl there ↦ rw (not_equal q.id id (λ e. g.1 (sym there.0 ∙ e))) (inl (there.0, there.1, held_null id held rs (rw g.0 at n) there.2))
        | inr missing ↦ elim (eq_cases q.id id) [
          | inl k ↦ rw k.0 (held_null id held (r ∷ rs) n missing.1)
          | inr k ↦ rw k.0 (inr (missing.0, held_null id held (r ∷ rs) n missing.1))
        ]
      ]
    ]

tested_none : (id : ℕ) (held : List Reference) → IsApart id held → map (tested_in id) held ≡ held
tested_none id [] a = refl
tested_none id (q ∷ held) a = rw (not_equal q.id id a.0) (ap (λ l. q ∷ l) (tested_none id held a.1))

-- marking the reference of a present record as tested
pub held_there : (id : ℕ) (b : List ℕ) (held : List Reference) (rs : Records) → record_named id rs ≡ Some b → IsAscending held → AreHeld held rs → AreHeld (map (tested_in id) held) rs
held_there id b [] rs n a h = h
held_there id b (q ∷ held) [] n a h = absurd (cc)
held_there id b (q ∷ held) (r ∷ rs) n a h =
    elim (eq_cases q.id id) [
      | inl k ↦ elim h [
        | inl there ↦ rw k.0 (inl (there.0, there.1, rw (tested_none id held (rest k.1)) there.2))
        | inr missing ↦ absurd (let none : record_named id (r ∷ rs) ≡ None = held_absent id held (r ∷ rs) (rest k.1) missing.1 in cc)
      ]
      | inr k ↦ elim h [
        | inl there ↦ rw k.0 (inl (there.0, there.1, held_there id b held rs (rw (not_equal r.0 id (λ e. k.1 (there.0 ∙ e))) at n) a.1 there.2))
        | inr missing ↦ rw k.0 (inr (missing.0, held_there id b held (r ∷ rs) n a.1 missing.1))
      ]
    ]
  where
    rest : q.id ≡ id → IsApart id held
    rest e = subst (λ i. IsApart i held) e (apart_later q.id held a.0)

-- dropping a record together with its reference
pub held_without : (id : ℕ) (held : List Reference) (rs : Records) → AreHeld held rs → AreHeld (filter (other_than id) held) (without_record id rs)
held_without id [] [] h = tt
held_without id [] (r ∷ rs) h = absurd h
held_without id (q ∷ held) [] h =
    elim (eq_cases q.id id) [ inl k ↦ rw k.0 (held_without id held [] h.1) | inr k ↦ rw k.0 (h.0, held_without id held [] h.1) ]
held_without id (q ∷ held) (r ∷ rs) h =
    elim h [
      | inl there ↦ elim (eq_cases q.id id) [
        | inl k ↦ rw (k.0, eq-eqb r.0 id (sym there.0 ∙ k.1)) (held_without id held rs there.2)
        | inr k ↦ rw (k.0, not_equal r.0 id (λ e. k.1 (there.0 ∙ e))) (inl (there.0, there.1, held_without id held rs there.2))
      ]
      | inr missing ↦ elim (eq_cases q.id id) [
        | inl k ↦ rw k.0 (held_without id held (r ∷ rs) missing.1)
        | inr k ↦ rw k.0 (held_missing q (filter (other_than id) held) (without_record id (r ∷ rs)) missing.0 (held_without id held (r ∷ rs) missing.1))
      ]
    ]

-- dropping a record removes exactly one
pub held_removed : (id : ℕ) (b : List ℕ) (held : List Reference) (rs : Records) → IsAscending held → AreHeld held rs → record_named id rs ≡ Some b → length (without_record id rs) + 1 ≡ length rs
held_removed id b [] [] a h n = absurd (cc)
held_removed id b [] (r ∷ rs) a h n = absurd h
held_removed id b (q ∷ held) [] a h n = absurd (cc)
held_removed id b (q ∷ held) (r ∷ rs) a h n =
    elim h [
      | inl there ↦ elim (eq_cases r.0 id) [
        | inl k ↦ rw k.0 (let none : without_record id rs ≡ rs = without_none id rs (held_absent id held rs (subst (λ i. IsApart i held) (there.0 ∙ k.1) (apart_later q.id held a.0)) there.2) in rw none (omega arith))
        | inr k ↦ rw k.0 (let rest : length (without_record id rs) + 1 ≡ length rs = held_removed id b held rs a.1 there.2 (rw k.0 at n) in omega arith)
      ]
      | inr missing ↦ held_removed id b held (r ∷ rs) a.1 missing.1 n
    ]

-- a new reference, with its record
pub held_pushed : (q : Reference) (b : List ℕ) (held : List Reference) (rs : Records) → length b ≡ q.size → AreHeld held rs → AreHeld (held ++ q ∷ []) (rs ++ (q.id, b) ∷ [])
held_pushed q b [] [] l h = inl (refl, l, tt)
held_pushed q b [] (r ∷ rs) l h = absurd h
held_pushed q b (x ∷ held) [] l h = inr (h.0, held_pushed q b held [] l h.1)
held_pushed q b (x ∷ held) (r ∷ rs) l h =
    elim h [ inl there ↦ inl (there.0, there.1, held_pushed q b held rs l there.2) | inr missing ↦ inr (missing.0, held_pushed q b held (r ∷ rs) l missing.1) ]

-- a new reference without a record
pub held_refused : (q : Reference) (held : List Reference) (rs : Records) → q.sure ≡ false → AreHeld held rs → AreHeld (held ++ q ∷ []) rs
held_refused q [] [] s h = (s, tt)
held_refused q [] (r ∷ rs) s h = absurd h
held_refused q (x ∷ held) [] s h = (h.0, held_refused q held [] s h.1)
held_refused q (x ∷ held) (r ∷ rs) s h =
    elim h [ inl there ↦ inl (there.0, there.1, held_refused q held rs s there.2) | inr missing ↦ inr (missing.0, held_refused q held (r ∷ rs) s missing.1) ]

-- other bytes of the same length
pub held_written : (id : ℕ) (b old : List ℕ) (held : List Reference) (rs : Records) → record_named id rs ≡ Some old → length b ≡ length old → AreHeld held rs → AreHeld held (with_bytes id b rs)
held_written id b old [] [] n l h = absurd (cc)
held_written id b old [] (r ∷ rs) n l h = absurd h
held_written id b old (q ∷ held) [] n l h = absurd (cc)
held_written id b old (q ∷ held) (r ∷ rs) n l h =
    elim (eq_cases r.0 id) [
      | inl k ↦ (let e : Some r.1 ≡ Some old = rw k.0 at n in let same : r.1 ≡ old = cc in elim h [
        | inl there ↦ rw k.0 (inl (there.0, (l ∙ ap length (sym same)) ∙ there.1, there.2))
        | inr missing ↦ (let rest = held_written id b old held (r ∷ rs) n l missing.1 in rw k.0 (inr (missing.0, rw k.0 at rest)))
      ])
      | inr k ↦ elim h [
        | inl there ↦ rw k.0 (inl (there.0, there.1, held_written id b old held rs (rw k.0 at n) l there.2))
        | inr missing ↦ (let rest = held_written id b old held (r ∷ rs) n l missing.1 in rw k.0 (inr (missing.0, rw k.0 at rest)))
      ]
    ]

-- without references, no record is held
pub held_none : (held : List Reference) (rs : Records) → held ≡ [] → AreHeld held rs → rs ≡ []
held_none [] [] e h = refl
held_none [] (r ∷ rs) e h = absurd h
held_none (q ∷ held) rs e h = absurd (cc)
