-- Tables with one element replaced, and records by id.
use Rattle.std.proofs.Common.{◌≡◌, ◌≢◌, ℕ, true, false, eqb, List, [], ◌∷◌, Option, Some, None, length, sym, ap, ◌∙◌, refl, ◌⊎◌, inl, inr}
use Rattle.std.specs.Prelude.{option_map}
use Rattle.std.proofs.lemmas.Bool.{cases_eq, eq-eqb, ne_eqb}
use Rattle.rb_semantics.specs.ProgramMemory.{record_named, without_record, with_bytes}
use Rattle.rb_world.specs.Worlds.{table_with}

pub eq_cases : (m n : ℕ) → ((eqb m n ≡ true) × (m ≡ n)) ⊎ ((eqb m n ≡ false) × (m ≢ n))
eq_cases m n = elim (cases_eq m n) [ inl e ↦ inl (eq-eqb m n e, e) | inr e ↦ inr (ne_eqb m n e, e) ]

module _ {X : Type 0} (i : ℕ) (x : X) (table : ℕ → X) where
  pub placed-here : (j : ℕ) → j ≡ i → table_with i x table j ≡ x
  placed-here j e = rw (eq-eqb j i e) refl

  pub placed-else : (j : ℕ) → j ≢ i → table_with i x table j ≡ table j
  placed-else j e = rw (ne_eqb j i e) refl

-- the length of a record, if it is held
abbrev pub size_of : ℕ → List (ℕ × List ℕ) → Option ℕ
size_of id records = option_map length (record_named id records)

-- a record that was removed is not held
pub none-without : (id : ℕ) (rs : List (ℕ × List ℕ)) → record_named id (without_record id rs) ≡ None
none-without id [] = refl
none-without id (r ∷ rs) = elim (eq_cases r.0 id) [ inl h ↦ rw h.0 (none-without id rs) | inr h ↦ rw h.0 (rw h.0 (none-without id rs)) ]

-- other bytes of the same length
pub size-with_bytes : (id n : ℕ) (new old : List ℕ) (rs : List (ℕ × List ℕ)) → record_named id rs ≡ Some old → length new ≡ length old → size_of n (with_bytes id new rs) ≡ size_of n rs
size-with_bytes id n new old [] e l = refl
size-with_bytes id n new old (r ∷ rs) e l =
    elim (eq_cases r.0 id) [
      | inl h ↦ (let there : Some r.1 ≡ Some old = rw h.0 at e in let same : r.1 ≡ old = cc in let long : length new ≡ length r.1 = l ∙ ap length (sym same) in
          rw h.0 (elim (eq_cases r.0 n) [ inl k ↦ rw k.0 (ap (λ x. Some x) long) | inr k ↦ rw k.0 refl ]))
      | inr h ↦ rw h.0 (elim (eq_cases r.0 n) [ inl k ↦ rw k.0 refl | inr k ↦ rw k.0 (size-with_bytes id n new old rs (rw h.0 at e) l) ])
    ]
