-- The values of registers still agree with their abstract values after each change.
use Rattle.std.proofs.Common.{◌≡◌, ◌≢◌, ℕ, true, false, List, [], ◌∷◌, ◌++◌, Some, None, map, filter, find, sym, ap, subst, ◌∙◌, inl, inr}
use Rattle.rb_verifier.specs.declared.references.Reference.{Reference}
use Rattle.rb_verifier.specs.declared.value.Abs.{Abs}
use Rattle.rb_verifier.specs.declared.value.Abs.TheVariants as abs
use Rattle.rb_verifier.specs.References.{AreEarlier, has_id, other_than, tested_in}
use Rattle.rb_verifier.specs.AbstractValues.{IsNumber, BelowValue}
use Rattle.rb_verifier.specs.ReferenceChanges.{if_null, if_there, if_given_back}
use Rattle.rb_verifier.proofs.Laws.{below_cases, number_cases}
use Rattle.rb_semantics.specs.declared.value.Value.{Value}
use Rattle.rb_semantics.specs.declared.value.Value.TheVariants.{Number}
use Rattle.rb_semantics.specs.ProgramMemory.{record_named, without_record, with_bytes}
use Rattle.rb_semantics.specs.Agreement.{reserved_value, AgreesValue, IsTested, HasReference}
use Rattle.rb_semantics.proofs.Ids.{eq_cases, apart_earlier, found_apart, tested_apart, found_pushed, found_without, found_tested_other, found_tested_same}
use Rattle.rb_semantics.proofs.Held.{Records}
use Rattle.rb_semantics.proofs.Records.{named_push_other, named_without, reserved_with_bytes}

-- a greater abstract value
pub value_below : (rs : Records) (x y : Abs) (v : Value) → BelowValue x y → AgreesValue rs x v → AgreesValue rs y v
value_below rs x y v b a =
    below_cases (λ x y. AgreesValue rs x v → AgreesValue rs y v) (λ x h. tt)
    (λ x n. number_cases (λ x. AgreesValue rs x v → AgreesValue rs abs.Number v) (λ h. h) (λ k h. (k, h)) x n) (λ x h. h) x y b a

pub tied_below : (held : List Reference) (x y : Abs) → BelowValue x y → HasReference held x → HasReference held y
tied_below held x y b t = below_cases (λ x y. HasReference held x → HasReference held y) (λ x h. tt) (λ x n h. tt) (λ x h. h) x y b t

-- the value of an abstract number
pub number_value : (rs : Records) (x : Abs) (v : Value) → IsNumber x → AgreesValue rs x v → (n : ℕ) × (v ≡ Number n)
number_value rs x v n = number_cases (λ x. AgreesValue rs x v → (n : ℕ) × (v ≡ Number n)) (λ h. h) (λ k h. (k, h)) x n

-- one more record
pub value_pushed : (unit : ℕ) (b : List ℕ) (held : List Reference) (rs : Records) (x : Abs) (v : Value) → AreEarlier unit held → HasReference held x → AgreesValue rs x v → AgreesValue (rs ++ (unit, b) ∷ []) x v
value_pushed unit b held rs (abs.Perhaps n) v e t a =
    let ne : n ≢ unit = found_apart false n unit held (apart_earlier unit held e) t in rw (named_push_other n unit b rs ne) a
value_pushed unit b held rs abs.Unreadable v e t a = tt
value_pushed unit b held rs abs.Number v e t a = a
value_pushed unit b held rs (abs.Known n) v e t a = a
value_pushed unit b held rs (abs.Ctx o) v e t a = a
value_pushed unit b held rs (abs.Stack o) v e t a = a
value_pushed unit b held rs (abs.Ring n) v e t a = a
value_pushed unit b held rs (abs.Record n o) v e t a = a

pub tied_pushed : (q : Reference) (held : List Reference) (x : Abs) → HasReference held x → HasReference (held ++ q ∷ []) x
tied_pushed q held (abs.Perhaps n) t = found_pushed false n q held t
tied_pushed q held (abs.Record n o) t = found_pushed true n q held t
tied_pushed q held abs.Unreadable t = tt
tied_pushed q held abs.Number t = tt
tied_pushed q held (abs.Known n) t = tt
tied_pushed q held (abs.Ctx o) t = tt
tied_pushed q held (abs.Stack o) t = tt
tied_pushed q held (abs.Ring n) t = tt

-- other bytes in a record
pub value_written : (m : ℕ) (b : List ℕ) (rs : Records) (x : Abs) (v : Value) → AgreesValue rs x v → AgreesValue (with_bytes m b rs) x v
value_written m b rs (abs.Perhaps n) v a = a ∙ sym (reserved_with_bytes n m b rs)
value_written m b rs abs.Unreadable v a = tt
value_written m b rs abs.Number v a = a
value_written m b rs (abs.Known n) v a = a
value_written m b rs (abs.Ctx o) v a = a
value_written m b rs (abs.Stack o) v a = a
value_written m b rs (abs.Ring n) v a = a
value_written m b rs (abs.Record n o) v a = a

-- a reservation was null
pub value_null : (m : ℕ) (rs : Records) (x : Abs) (v : Value) → record_named m rs ≡ None → AgreesValue rs x v → AgreesValue rs (if_null m x) v
value_null m rs (abs.Perhaps n) v h a =
    elim (eq_cases n m) [ inl k ↦ rw k.0 (let e : record_named n rs ≡ None = rw k.1 h in a ∙ ap (reserved_value n) e) | inr k ↦ rw k.0 a ]
value_null m rs abs.Unreadable v h a = tt
value_null m rs abs.Number v h a = a
value_null m rs (abs.Known n) v h a = a
value_null m rs (abs.Ctx o) v h a = a
value_null m rs (abs.Stack o) v h a = a
value_null m rs (abs.Ring n) v h a = a
value_null m rs (abs.Record n o) v h a = a

pub tied_null : (m : ℕ) (held : List Reference) (x : Abs) → IsTested false (find (has_id m) held) → HasReference held x → HasReference (filter (other_than m) held) (if_null m x)
tied_null m held (abs.Perhaps n) h t =
    elim (eq_cases n m) [ inl k ↦ rw k.0 tt | inr k ↦ rw k.0 (rw (found_without n m held k.1) t) ]
tied_null m held (abs.Record n o) h t = let ne : m ≢ n = tested_apart n m held t h in rw (found_without n m held (λ e. ne (sym e))) t
tied_null m held abs.Unreadable h t = tt
tied_null m held abs.Number h t = tt
tied_null m held (abs.Known n) h t = tt
tied_null m held (abs.Ctx o) h t = tt
tied_null m held (abs.Stack o) h t = tt
tied_null m held (abs.Ring n) h t = tt

-- a reservation was a record
pub value_there : (m : ℕ) (b : List ℕ) (rs : Records) (x : Abs) (v : Value) → record_named m rs ≡ Some b → AgreesValue rs x v → AgreesValue rs (if_there m x) v
value_there m b rs (abs.Perhaps n) v h a =
    elim (eq_cases n m) [ inl k ↦ rw k.0 (a ∙ ap (λ i. reserved_value i (record_named i rs)) k.1 ∙ ap (reserved_value m) h) | inr k ↦ rw k.0 a ]
value_there m b rs abs.Unreadable v h a = tt
value_there m b rs abs.Number v h a = a
value_there m b rs (abs.Known n) v h a = a
value_there m b rs (abs.Ctx o) v h a = a
value_there m b rs (abs.Stack o) v h a = a
value_there m b rs (abs.Ring n) v h a = a
value_there m b rs (abs.Record n o) v h a = a

found_tested : (m n : ℕ) (held : List Reference) → IsTested true (find (has_id n) held) → IsTested true (find (has_id n) (map (tested_in m) held))
found_tested m n held t =
    elim (eq_cases n m) [
      | inl k ↦ subst (λ i. IsTested true (find (has_id n) (map (tested_in i) held))) k.1 (found_tested_same true n held t)
      | inr k ↦ rw (found_tested_other n m held k.1) t
    ]

pub tied_there : (m : ℕ) (held : List Reference) (x : Abs) → HasReference held x → HasReference (map (tested_in m) held) (if_there m x)
tied_there m held (abs.Perhaps n) t =
    elim (eq_cases n m) [
      | inl k ↦ rw k.0 (found_tested_same false m held (subst (λ i. IsTested false (find (has_id i) held)) k.1 t))
      | inr k ↦ rw k.0 (rw (found_tested_other n m held k.1) t)
    ]
tied_there m held (abs.Record n o) t = found_tested m n held t
tied_there m held abs.Unreadable t = tt
tied_there m held abs.Number t = tt
tied_there m held (abs.Known n) t = tt
tied_there m held (abs.Ctx o) t = tt
tied_there m held (abs.Stack o) t = tt
tied_there m held (abs.Ring n) t = tt

-- a record was submitted or discarded
pub value_given_back : (m : ℕ) (held : List Reference) (rs : Records) (x : Abs) (v : Value) → IsTested true (find (has_id m) held) → HasReference held x → AgreesValue rs x v → AgreesValue (without_record m rs) (if_given_back m x) v
value_given_back m held rs (abs.Perhaps n) v h t a = let ne : n ≢ m = tested_apart m n held h t in rw (named_without n m rs ne) a
value_given_back m held rs (abs.Record n o) v h t a = elim (eq_cases n m) [ inl k ↦ rw k.0 tt | inr k ↦ rw k.0 a ]
value_given_back m held rs abs.Unreadable v h t a = tt
value_given_back m held rs abs.Number v h t a = a
value_given_back m held rs (abs.Known n) v h t a = a
value_given_back m held rs (abs.Ctx o) v h t a = a
value_given_back m held rs (abs.Stack o) v h t a = a
value_given_back m held rs (abs.Ring n) v h t a = a

pub tied_given_back : (m : ℕ) (held : List Reference) (x : Abs) → IsTested true (find (has_id m) held) → HasReference held x → HasReference (filter (other_than m) held) (if_given_back m x)
tied_given_back m held (abs.Perhaps n) h t = let ne : n ≢ m = tested_apart m n held h t in rw (found_without n m held ne) t
tied_given_back m held (abs.Record n o) h t = elim (eq_cases n m) [ inl k ↦ rw k.0 tt | inr k ↦ rw k.0 (rw (found_without n m held k.1) t) ]
tied_given_back m held abs.Unreadable h t = tt
tied_given_back m held abs.Number h t = tt
tied_given_back m held (abs.Known n) h t = tt
tied_given_back m held (abs.Ctx o) h t = tt
tied_given_back m held (abs.Stack o) h t = tt
tied_given_back m held (abs.Ring n) h t = tt
