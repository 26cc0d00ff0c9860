-- The places of the stack still agree with their abstract values after each change.
use Rattle.std.proofs.Common.{◌≡◌, ◌≢◌, ℕ, ◌+◌, ◌-◌, ◌*◌, ◌<◌, ◌≤◌, Bool, true, false, List, [], ◌∷◌, ◌++◌, Some, None, length, take, drop, replicate, find, sym, ap, subst, ◌∙◌, refl, arith, eq-eqb, ◌⊎◌, inl, inr}
use Rattle.std.specs.Prelude.{not, ◌==◌, if◌then◌else◌}
use Rattle.std.proofs.lemmas.Bool.{cases_lt}
use Rattle.std.proofs.lemmas.Bool.Decides.{nat_tests}
use Rattle.std.proofs.lemmas.Grind.{common_steps}
use Rattle.std.proofs.lemmas.Slice.{between_is, take-put_mid_below, drop-put_mid}
use Rattle.byteorder.specs.Endian.{little_number}
use Rattle.rb_verifier.specs.declared.references.Reference.{Reference}
use Rattle.rb_verifier.specs.declared.state.AbsState.{AbsState}
use Rattle.rb_verifier.specs.declared.value.Abs.{Abs}
use Rattle.rb_verifier.specs.declared.value.Abs.TheVariants as abs
use Rattle.rb_verifier.specs.AbstractStates.{Below}
use Rattle.rb_verifier.specs.AbstractValues.{BelowValue}
use Rattle.rb_verifier.specs.KeptPointers.{KnownPlaces, listed_places, known_in, with_place, with_data}
use Rattle.rb_verifier.specs.ReferenceChanges.{if_null, place_if_null, if_there, if_given_back, null_state, there_state, given_back_state}
use Rattle.rb_verifier.specs.References.{AreEarlier, has_id}
use Rattle.rb_verifier.specs.StackPlaces.{touches}
use Rattle.rb_verifier.proofs.Laws.{known-listed}
use Rattle.rb_semantics.specs.declared.value.Value.{Value}
use Rattle.rb_semantics.specs.declared.value.Value.TheVariants.{Number}
use Rattle.rb_semantics.specs.StackPointers.{StackPointers, pointer_at, pointers_beside}
use Rattle.rb_semantics.specs.ProgramMemory.{Memory, record_named, with_bytes, without, holding}
use Rattle.rb_semantics.specs.Agreement.{AgreesValue, IsTested, HasReference, IsKeptPointer, AgreesPlaces, loaded_value, value_at}
use Rattle.rb_semantics.proofs.Ids.{eq_cases, not_equal}
use Rattle.rb_semantics.proofs.Values.{value_below, tied_below, value_pushed, tied_pushed, value_written, value_null, tied_null, value_there, tied_there, value_given_back, tied_given_back}

-- ---- the remaining pointers, and the remaining bytes of a place

-- the pointer that a place still holds after those that overlap some bytes were removed
pub left_beside : (at len place : ℕ) (pointers : StackPointers) → pointer_at place (pointers_beside at len pointers) ≡ (if touches at len place then None else pointer_at place pointers)
left_beside at len place [] = none_either (touches at len place)
  where
    none_either : (b : Bool) → pointer_at place [] ≡ (if b then None else pointer_at place [])
    none_either true = refl
    none_either false = refl
left_beside at len place (p ∷ pointers) = by_test (touches at len p.0) refl (eq_cases p.0 place) (left_beside at len place pointers)
  where
    by_test : (b : Bool) → touches at len p.0 ≡ b → (((p.0 == place) ≡ true) × (p.0 ≡ place)) ⊎ (((p.0 == place) ≡ false) × (p.0 ≢ place))
        → pointer_at place (pointers_beside at len pointers) ≡ (if touches at len place then None else pointer_at place pointers)
        → pointer_at place (if not b then p ∷ pointers_beside at len pointers else pointers_beside at len pointers) ≡ (if touches at len place then None else (if p.0 == place then Some p.1 else pointer_at place pointers))
    by_test true e (inl k) rest = let f : touches at len place ≡ true = ap (touches at len) (sym k.1) ∙ e in rw f (rw f at rest)
    by_test false e (inl k) rest = let f : touches at len place ≡ false = ap (touches at len) (sym k.1) ∙ e in rw (f, k.0) refl
    by_test true e (inr k) rest = rw k.0 rest
    by_test false e (inr k) rest = rw k.0 rest

pub gone_beside : (at len place : ℕ) (pointers : StackPointers) → touches at len place ≡ true → pointer_at place (pointers_beside at len pointers) ≡ None
gone_beside at len place pointers e = left_beside at len place pointers ∙ ap (λ b. if b then None else pointer_at place pointers) e

pub kept_beside : (at len place : ℕ) (pointers : StackPointers) → touches at len place ≡ false → pointer_at place (pointers_beside at len pointers) ≡ pointer_at place pointers
kept_beside at len place pointers e = left_beside at len place pointers ∙ ap (λ b. if b then None else pointer_at place pointers) e

-- bytes that do not overlap a place lie before it or after it
apart : (at len place : ℕ) → 0 < len → touches at len place ≡ false → (8 * place + 8 ≤ at) ⊎ (at + len ≤ 8 * place)
apart at len place some e = elim (cases_lt (8 * place) (at + len)) [ inl lt ↦ inl (grind (arith, nat_tests)) | inr ge ↦ inr ge ]

-- a list of bytes after others were written over some of them
abbrev pub over : ℕ → List ℕ → List ℕ → List ℕ
over at new old = take at old ++ (new ++ drop (length new) (drop at old))

-- eight bytes before those that were written, and eight bytes after them
before_same : (at n : ℕ) (new old : List ℕ) → n + 8 ≤ at → at + length new ≤ length old → take 8 (drop n (over at new old)) ≡ take 8 (drop n old)
before_same at n new old h k =
    let eight : n + 8 - n ≡ 8 = omega arith in
    subst (λ m. take m (drop n (over at new old)) ≡ take m (drop n old)) eight
    (between_is (over at new old) n (n + 8) ∙ ap (drop n) (take-put_mid_below at (length new) old new (n + 8) h (omega arith)) ∙ sym (between_is old n (n + 8)))

behind_same : (at n : ℕ) (new old : List ℕ) → at + length new ≤ n → at + length new ≤ length old → take 8 (drop n (over at new old)) ≡ take 8 (drop n old)
behind_same at n new old h k = ap (take 8) (drop-put_mid at (length new) old new n h (omega arith) refl)

pub bytes_same : (at place : ℕ) (new old : List ℕ) → 0 < length new → at + length new ≤ length old → touches at (length new) place ≡ false → take 8 (drop (8 * place) (over at new old)) ≡ take 8 (drop (8 * place) old)
bytes_same at place new old some k e =
    elim (apart at (length new) place some e) [ inl h ↦ before_same at (8 * place) new old h k | inr h ↦ behind_same at (8 * place) new old h k ]

-- the bytes that were written are read back
pub range_written : (at : ℕ) (new old : List ℕ) → at + length new ≤ length old → take (length new) (drop at (over at new old)) ≡ new
range_written at new old h = grind (arith, common_steps)

-- the bytes of a place overlap no other place
pub other_touched : (place other : ℕ) → other ≢ place → touches (8 * place) 8 other ≡ false
other_touched place other ne = grind (arith, nat_tests)

pub same_touched : (place : ℕ) → touches (8 * place) 8 place ≡ true
same_touched place = grind (arith, nat_tests)

-- ---- changes of the abstract values

null_place_below : (id : ℕ) (x : Abs) → BelowValue (if_null id x) (place_if_null id x)
null_place_below id (abs.Perhaps n) = elim (n == id) as (λ b. BelowValue (if b then abs.Known 0 else abs.Perhaps n) (if b then abs.Number else abs.Perhaps n)) [ true ↦ tt | false ↦ refl ]
null_place_below id abs.Unreadable = tt
null_place_below id abs.Number = tt
null_place_below id (abs.Known n) = refl
null_place_below id (abs.Ctx o) = refl
null_place_below id (abs.Stack o) = refl
null_place_below id (abs.Ring n) = refl
null_place_below id (abs.Record n o) = refl

module _ (rings : ℕ) where
  pub places_below : (a b : AbsState) (m : Memory) → Below a b → AgreesPlaces rings a.held a.places m → AgreesPlaces rings b.held b.places m
  places_below a b m h g = record {
    values = λ place lt. value_below m.records (known_in a.places place) (known_in b.places place) (value_at place m) (h.places place) (g.values place lt);
    tied = λ place lt. subst (λ held. HasReference held (known_in b.places place)) h.held (tied_below a.held (known_in a.places place) (known_in b.places place) (h.places place) (g.tied place lt));
    pointers = g.pointers;
  }

  -- places that are listed from a function
  places_listed : (f : KnownPlaces) (held : List Reference) (m : Memory) → ((place : ℕ) → place < 64 → AgreesValue m.records (f place) (value_at place m)) → ((place : ℕ) → place < 64 → HasReference held (f place))
      → ((place : ℕ) (v : Value) → pointer_at place m.pointers ≡ Some v → IsKeptPointer rings v) → AgreesPlaces rings held (listed_places f) m
  places_listed f held m h t k = record { values = λ place lt. rw (known-listed f place lt) (h place lt); tied = λ place lt. rw (known-listed f place lt) (t place lt); pointers = k }

  pub places_null : (id : ℕ) (a : AbsState) (m : Memory) → record_named id m.records ≡ None → IsTested false (find (has_id id) a.held) → AgreesPlaces rings a.held a.places m → AgreesPlaces rings (null_state id a).held (null_state id a).places m
  places_null id a m none h g =
      places_listed (λ place. place_if_null id (known_in a.places place)) (null_state id a).held m
      (λ place lt. value_below m.records _ _ (value_at place m) (null_place_below id (known_in a.places place)) (value_null id m.records (known_in a.places place) (value_at place m) none (g.values place lt)))
      (λ place lt. tied_below (null_state id a).held _ _ (null_place_below id (known_in a.places place)) (tied_null id a.held (known_in a.places place) h (g.tied place lt))) g.pointers

  pub places_there : (id : ℕ) (b : List ℕ) (a : AbsState) (m : Memory) → record_named id m.records ≡ Some b → AgreesPlaces rings a.held a.places m → AgreesPlaces rings (there_state id a).held (there_state id a).places m
  places_there id b a m there g =
      places_listed (λ place. if_there id (known_in a.places place)) (there_state id a).held m
      (λ place lt. value_there id b m.records (known_in a.places place) (value_at place m) there (g.values place lt))
      (λ place lt. tied_there id a.held (known_in a.places place) (g.tied place lt)) g.pointers

  pub places_given_back : (id : ℕ) (a : AbsState) (m : Memory) → IsTested true (find (has_id id) a.held) → AgreesPlaces rings a.held a.places m → AgreesPlaces rings (given_back_state id a).held (given_back_state id a).places (without id m)
  places_given_back id a m h g =
      places_listed (λ place. if_given_back id (known_in a.places place)) (given_back_state id a).held (without id m)
      (λ place lt. value_given_back id a.held m.records (known_in a.places place) (value_at place m) h (g.tied place lt) (g.values place lt))
      (λ place lt. tied_given_back id a.held (known_in a.places place) h (g.tied place lt)) g.pointers

  abbrev new_reference : ℕ → ℕ → ℕ → Reference
  new_reference unit ring size = record { id = unit; ring = ring; size = size; sure = false }

  pub places_granted : (unit ring size : ℕ) (b : List ℕ) (a : AbsState) (m : Memory) → AreEarlier unit a.held → AgreesPlaces rings a.held a.places m → AgreesPlaces rings (a.held ++ new_reference unit ring size ∷ []) a.places (holding unit b m)
  places_granted unit ring size b a m e g = record {
    values = λ place lt. value_pushed unit b a.held m.records (known_in a.places place) (value_at place m) e (g.tied place lt) (g.values place lt);
    tied = λ place lt. tied_pushed (new_reference unit ring size) a.held (known_in a.places place) (g.tied place lt);
    pointers = g.pointers;
  }

  pub places_refused : (unit ring size : ℕ) (a : AbsState) (m : Memory) → AgreesPlaces rings a.held a.places m → AgreesPlaces rings (a.held ++ new_reference unit ring size ∷ []) a.places m
  places_refused unit ring size a m g = record { values = g.values; tied = λ place lt. tied_pushed (new_reference unit ring size) a.held (known_in a.places place) (g.tied place lt); pointers = g.pointers }

  pub places_written : (id : ℕ) (b : List ℕ) (a : AbsState) (m : Memory) → AgreesPlaces rings a.held a.places m → AgreesPlaces rings a.held a.places (record m { records = with_bytes id b m.records })
  places_written id b a m g = record { values = λ place lt. value_written id b m.records (known_in a.places place) (value_at place m) (g.values place lt); tied = g.tied; pointers = g.pointers }

-- ---- stores to the stack

-- the memory after bytes were written to the stack, and after a pointer was stored at a place
abbrev pub stack_written : ℕ → List ℕ → Memory → Memory
stack_written at new m = record m { stack = over at new m.stack; pointers = pointers_beside at (length new) m.pointers }

abbrev pub stack_spilled : ℕ → Value → Memory → Memory
stack_spilled place v m = record m { stack = over (8 * place) (replicate 8 0) m.stack; pointers = (place, v) ∷ pointers_beside (8 * place) 8 m.pointers }

module _ (rings : ℕ) (held : List Reference) (places : List Abs) (m : Memory) (g : AgreesPlaces rings held places m) where
  module _ (at : ℕ) (new : List ℕ) (some : 0 < length new) (inside : at + length new ≤ length m.stack) where
    -- a place that does not overlap the bytes
    same_value : (place : ℕ) → touches at (length new) place ≡ false → value_at place (stack_written at new m) ≡ value_at place m
    same_value place e =
        ap (λ o. loaded_value o (take 8 (drop (8 * place) (over at new m.stack)))) (kept_beside at (length new) place m.pointers e)
        ∙ ap (loaded_value (pointer_at place m.pointers)) (bytes_same at place new m.stack some inside e)

    -- a place that overlaps them
    number_there : (place : ℕ) → touches at (length new) place ≡ true → value_at place (stack_written at new m) ≡ Number (little_number 8 (take 8 (drop (8 * place) (over at new m.stack))))
    number_there place e = ap (λ o. loaded_value o (take 8 (drop (8 * place) (over at new m.stack)))) (gone_beside at (length new) place m.pointers e)

    beside_pointers : (place : ℕ) (v : Value) → pointer_at place (pointers_beside at (length new) m.pointers) ≡ Some v → IsKeptPointer rings v
    beside_pointers place v e = by_test (touches at (length new) place) refl
      where
        by_test : (b : Bool) → touches at (length new) place ≡ b → IsKeptPointer rings v
        by_test true h = absurd (let none = gone_beside at (length new) place m.pointers h in cc)
        by_test false h = g.pointers place v (sym (kept_beside at (length new) place m.pointers h) ∙ e)

    pub places_data : AgreesPlaces rings held (listed_places (with_data at (length new) (known_in places))) (stack_written at new m)
    places_data = places_listed rings (with_data at (length new) (known_in places)) held (stack_written at new m) (λ place lt. value place lt (touches at (length new) place) refl) (λ place lt. tie place lt (touches at (length new) place)) beside_pointers
      where
        value : (place : ℕ) → place < 64 → (b : Bool) → touches at (length new) place ≡ b → AgreesValue m.records (if touches at (length new) place then abs.Number else known_in places place) (value_at place (stack_written at new m))
        value place lt true e = rw e (_, number_there place e)
        value place lt false e = rw e (subst (AgreesValue m.records (known_in places place)) (sym (same_value place e)) (g.values place lt))

        tie : (place : ℕ) → place < 64 → (b : Bool) → HasReference held (if b then abs.Number else known_in places place)
        tie place lt true = tt
        tie place lt false = g.tied place lt

  module _ (place : ℕ) (inside : 8 * place + 8 ≤ length m.stack) (x : Abs) (tied : HasReference held x) where
    tie_with : (other : ℕ) → other < 64 → (b : Bool) → HasReference held (if b then x else known_in places other)
    tie_with other lt true = tied
    tie_with other lt false = g.tied other lt

    -- a pointer at a place
    pub places_spilled : (v : Value) → AgreesValue m.records x v → IsKeptPointer rings v → AgreesPlaces rings held (listed_places (with_place place x (known_in places))) (stack_spilled place v m)
    places_spilled v h k = places_listed rings (with_place place x (known_in places)) held (stack_spilled place v m) (λ other lt. value other lt (eq_cases other place)) (λ other lt. tie_with other lt (other == place)) pointers
      where
        zeros_inside : 8 * place + length {A = ℕ} (replicate 8 0) ≤ length m.stack
        zeros_inside = inside

        value : (other : ℕ) → other < 64 → (((other == place) ≡ true) × (other ≡ place)) ⊎ (((other == place) ≡ false) × (other ≢ place))
            → AgreesValue m.records (if other == place then x else known_in places other) (value_at other (stack_spilled place v m))
        value other lt (inl e) = rw e.0 (rw (eq-eqb place other (sym e.1)) h)
        value other lt (inr e) =
            rw e.0 (rw (not_equal place other (λ q. e.1 (sym q)))
            (subst (AgreesValue m.records (known_in places other)) (sym (same_value (8 * place) (replicate 8 0) (omega arith) zeros_inside other (other_touched place other e.1))) (g.values other lt)))

        pointers : (other : ℕ) (w : Value) → pointer_at other ((place, v) ∷ pointers_beside (8 * place) 8 m.pointers) ≡ Some w → IsKeptPointer rings w
        pointers other w e =
            elim (eq_cases place other) [
              | inl q ↦ (let same : Some v ≡ Some w = rw q.0 at e in let to : v ≡ w = cc in subst (IsKeptPointer rings) to k)
              | inr q ↦ beside_pointers (8 * place) (replicate 8 0) (omega arith) zeros_inside other w (rw q.0 at e)
            ]

    -- the bytes of a number at a place
    pub places_number : (new : List ℕ) → length new ≡ 8 → AgreesValue m.records x (Number (little_number 8 new)) → AgreesPlaces rings held (listed_places (with_place place x (known_in places))) (stack_written (8 * place) new m)
    places_number new long h = places_listed rings (with_place place x (known_in places)) held (stack_written (8 * place) new m) (λ other lt. value other lt (eq_cases other place)) (λ other lt. tie_with other lt (other == place)) (beside_pointers (8 * place) new (omega arith) (omega arith))
      where
        here : value_at place (stack_written (8 * place) new m) ≡ Number (little_number 8 new)
        here =
            number_there (8 * place) new (omega arith) (omega arith) place (rw long (same_touched place))
            ∙ ap (λ bytes. Number (little_number 8 bytes)) (subst (λ n. take n (drop (8 * place) (over (8 * place) new m.stack)) ≡ new) long (range_written (8 * place) new m.stack (omega arith)))

        value : (other : ℕ) → other < 64 → (((other == place) ≡ true) × (other ≡ place)) ⊎ (((other == place) ≡ false) × (other ≢ place))
            → AgreesValue m.records (if other == place then x else known_in places other) (value_at other (stack_written (8 * place) new m))
        value other lt (inl e) = rw e.0 (subst (λ p. AgreesValue m.records x (value_at p (stack_written (8 * place) new m))) (sym e.1) (subst (AgreesValue m.records x) (sym here) h))
        value other lt (inr e) =
            rw e.0 (subst (AgreesValue m.records (known_in places other)) (sym (same_value (8 * place) new (omega arith) (omega arith) other (rw long (other_touched place other e.1)))) (g.values other lt))
