-- Records by name, after each change.
use Rattle.std.proofs.Common.{◌≡◌, ◌≢◌, ℕ, List, [], ◌∷◌, ◌++◌, Some, None, length, sym, ap, ◌∙◌, refl, arith, eq-eqb, inl, inr}
use Rattle.rb_semantics.specs.ProgramMemory.{record_named, without_record, with_bytes}
use Rattle.rb_semantics.specs.Agreement.{reserved_value}
use Rattle.rb_semantics.proofs.Ids.{not_equal, eq_cases}

pub named_push_other : (n u : ℕ) (b : List ℕ) (rs : List (ℕ × List ℕ)) → n ≢ u → record_named n (rs ++ (u, b) ∷ []) ≡ record_named n rs
named_push_other n u b [] ne = rw (not_equal u n (λ e. ne (sym e))) refl
named_push_other n u b (r ∷ rs) ne =
    elim (eq_cases r.0 n) [ inl h ↦ rw h.0 refl | inr h ↦ rw h.0 (named_push_other n u b rs ne) ]

pub named_push_new : (n : ℕ) (b : List ℕ) (rs : List (ℕ × List ℕ)) → record_named n rs ≡ None → record_named n (rs ++ (n, b) ∷ []) ≡ Some b
named_push_new n b [] h = rw (eq-eqb n n refl) refl
named_push_new n b (r ∷ rs) h =
    elim (eq_cases r.0 n) [ inl k ↦ absurd (let f = rw k.0 at h in cc) | inr k ↦ rw k.0 (named_push_new n b rs (rw k.0 at h)) ]

pub named_without : (n m : ℕ) (rs : List (ℕ × List ℕ)) → n ≢ m → record_named n (without_record m rs) ≡ record_named n rs
named_without n m [] ne = refl
named_without n m (r ∷ rs) ne =
    elim (eq_cases r.0 m) [
      | inl h ↦ rw h.0 (rw (not_equal r.0 n (λ e. ne (sym e ∙ h.1))) (named_without n m rs ne))
      | inr h ↦ rw h.0 (elim (eq_cases r.0 n) [ inl k ↦ rw k.0 refl | inr k ↦ rw k.0 (named_without n m rs ne) ])
    ]

-- removing a name without a record changes nothing
pub without_none : (n : ℕ) (rs : List (ℕ × List ℕ)) → record_named n rs ≡ None → without_record n rs ≡ rs
without_none n [] h = refl
without_none n (r ∷ rs) h =
    elim (eq_cases r.0 n) [ inl k ↦ absurd (let f = rw k.0 at h in cc) | inr k ↦ rw k.0 (ap (λ l. r ∷ l) (without_none n rs (rw k.0 at h))) ]

-- changing the bytes of a record changes no reservation
pub reserved_with_bytes : (n m : ℕ) (b : List ℕ) (rs : List (ℕ × List ℕ)) → reserved_value n (record_named n (with_bytes m b rs)) ≡ reserved_value n (record_named n rs)
reserved_with_bytes n m b [] = refl
reserved_with_bytes n m b (r ∷ rs) =
    elim (eq_cases r.0 m) [
      | inl h ↦ rw h.0 (elim (eq_cases r.0 n) [ inl k ↦ rw k.0 refl | inr k ↦ rw k.0 refl ])
      | inr h ↦ rw h.0 (elim (eq_cases r.0 n) [ inl k ↦ rw k.0 refl | inr k ↦ rw k.0 (reserved_with_bytes n m b rs) ])
    ]

pub length-with_bytes : (m : ℕ) (b : List ℕ) (rs : List (ℕ × List ℕ)) → length (with_bytes m b rs) ≡ length rs
length-with_bytes m b [] = refl
length-with_bytes m b (r ∷ rs) = elim (eq_cases r.0 m) [ inl h ↦ rw h.0 refl | inr h ↦ rw h.0 (let e : length (with_bytes m b rs) ≡ length rs = length-with_bytes m b rs in omega arith) ]
