-- The places of the stack, as a list of 64 and in the form that code stores.
use Rattle.std.proofs.Common.{◌≡◌, ◌≢◌, ℕ, zero, suc, ◌+◌, ◌-◌, ◌<◌, ◌≤◌, Bool, true, false, eqb, List, [], ◌∷◌, ◌++◌, length, get_or, refl, sym, ◌∙◌, ap, subst, arith, below_more, ⊎_elim}
use Rattle.std.specs.Prelude.{◌&&◌, ◌||◌, ◌↔◌, nat_le, not, if◌then◌else◌, IsTrue}
use Rattle.std.proofs.lemmas.Bool.{cases_lt, eq-eqb}
use Rattle.std.proofs.lemmas.Bool.Decides.{nat_tests}
use Rattle.std.proofs.lemmas.List.{get_or_past, get_or_append_left, get_or-append_right}
use Rattle.std.proofs.lemmas.List.FromFn.{length-map-range_with_len, get_or-map-range_with_len, fill_by_all}
use Rattle.rb_verifier.specs.declared.value.Abs.{Abs}
use Rattle.rb_verifier.specs.declared.value.Abs.TheVariants.{Unreadable, Number, Known, Ctx, Stack, Ring, Perhaps, Record}
use Rattle.rb_verifier.specs.AbstractValues.{IsNumber}
use Rattle.rb_verifier.specs.StackPlaces.{touches, any_place}
use Rattle.rb_verifier.specs.KeptPointers.{KnownPlaces, all_data, listed_places, known_in, is_data, with_place, with_data}
use Rattle.rb_verifier.specs.declared.reference_changes.Change.{Change}
use Rattle.rb_verifier.specs.declared.reference_changes.Change.TheVariants.{IsNull, IsThere, GivenBack}
use Rattle.rb_verifier.specs.inner.ChangedValues.{place_after}
use Rattle.rb_verifier.specs.inner.KeptList.{from_last}
use Rattle.rb_verifier.specs.inner.ValueJoins.{IsJoinValue}

-- ---- the list of 64 places

pub known-listed : (f : KnownPlaces) (place : ℕ) → place < 64 → known_in (listed_places f) place ≡ f place
known-listed f place lt = get_or-map-range_with_len f 0 64 place place Number lt (omega arith)

pub known-past : (f : KnownPlaces) (place : ℕ) → 64 ≤ place → known_in (listed_places f) place ≡ Number
known-past f place le = get_or_past (listed_places f) place Number (let n : length (listed_places f) ≡ 64 = length-map-range_with_len f 0 64 in omega arith)

-- lists of places are equal if they have the same value at each of the 64 places
pub listed_same : (f g : KnownPlaces) → ((place : ℕ) → place < 64 → f place ≡ g place) → listed_places f ≡ listed_places g
listed_same f g h = fill_by_all g (listed_places f) 64 Number (length-map-range_with_len f 0 64) (λ k lt. known-listed f k lt ∙ h k lt)

-- ---- the list that code stores

from-in : (xs : List Abs) (place : ℕ) → place ≤ 63 → from_last xs place ≡ get_or xs (63 - place) Number
from-in xs place le = let t : nat_le place 63 ≡ true = grind (arith, nat_tests) in rw t refl

from-past : (xs : List Abs) (place : ℕ) → 63 < place → from_last xs place ≡ Number
from-past xs place lt = let t : nat_le place 63 ≡ false = grind (arith, nat_tests) in rw t refl

pub known-from_last : (xs : List Abs) (place : ℕ) → known_in (listed_places (from_last xs)) place ≡ from_last xs place
known-from_last xs place = ⊎_elim (λ lt. known-listed (from_last xs) place lt) (λ le. known-past (from_last xs) place le ∙ sym (from-past xs place (omega arith))) (cases_lt place 64)

-- a place that is listed, one that is not, and a number that is no place
pub known_there : (xs : List Abs) (place : ℕ) → place ≤ 63 → known_in (listed_places (from_last xs)) place ≡ get_or xs (63 - place) Number
known_there xs place le = known-from_last xs place ∙ from-in xs place le

pub known_unlisted : (xs : List Abs) (place : ℕ) → length xs + place ≤ 63 → known_in (listed_places (from_last xs)) place ≡ Number
known_unlisted xs place le = known_there xs place (omega arith) ∙ get_or_past xs (63 - place) Number (omega arith)

pub known_beyond : (xs : List Abs) (place : ℕ) → 63 < place → known_in (listed_places (from_last xs)) place ≡ Number
known_beyond xs place lt = known-from_last xs place ∙ from-past xs place lt

-- ---- places that all have data

pub data_listed : (g : KnownPlaces) → ((place : ℕ) → g place ≡ Number) → all_data ≡ listed_places g
data_listed g h = listed_same (λ place. Number) g (λ place lt. sym (h place))

pub known-data : (places : List Abs) → places ≡ all_data → (place : ℕ) → known_in places place ≡ Number
known-data places e place = ap (λ p. known_in p place) e ∙ ⊎_elim (λ lt. known-listed (λ other. Number) place lt) (λ le. known-past (λ other. Number) place le) (cases_lt place 64)

pub all-data : (xs : List Abs) → ((i : ℕ) → get_or xs i Number ≡ Number) → listed_places (from_last xs) ≡ all_data
all-data xs h = listed_same (from_last xs) (λ place. Number) (λ place lt. from-in xs place (omega arith) ∙ h (63 - place))

pub one-pointer : (xs : List Abs) (i : ℕ) → i < length xs → length xs ≤ 64 → (get_or xs i Number ≡ Number → ⊥) → listed_places (from_last xs) ≡ all_data → ⊥
one-pointer xs i lt few other e =
    let back : 63 - (63 - i) ≡ i = omega arith in
    other (ap (λ k. get_or xs k Number) (sym back) ∙ (sym (known_there xs (63 - i) (omega arith)) ∙ known-data (listed_places (from_last xs)) e (63 - i)))

-- places of which one holds a pointer are not all data
pub keeps-pointer : (place : ℕ) (v : Abs) (f : KnownPlaces) → place ≤ 63 → is_data v ≡ false → listed_places (with_place place v f) ≡ all_data → ⊥
keeps-pointer place v f le pointer e =
    let kept : with_place place v f place ≡ v = rw (eq-eqb place place refl) refl in
    let number : v ≡ Number = sym kept ∙ (sym (known-listed (with_place place v f) place (omega arith)) ∙ known-data (listed_places (with_place place v f)) e place) in
    let no : is_data v ≡ true = ap is_data number in
    absurd (let e : true ≡ false = sym no ∙ pointer in cc)

-- ---- a list that is built from the last place down

-- the property holds for the elements so far, each with its place
abbrev pub AreBuilt : (ℕ → Abs → Type 0) → List Abs → ℕ → Type 0
AreBuilt P zs n = (i : ℕ) → i < n → P (63 - i) (get_or zs i Number)

pub built_more : (P : ℕ → Abs → Type 0) (zs : List Abs) (i : ℕ) (x : Abs) → length zs ≡ i → AreBuilt P zs i → P (63 - i) x → AreBuilt P (zs ++ x ∷ []) (i + 1)
built_more P zs i x count h here =
    let last : get_or (zs ++ x ∷ []) i Number ≡ x = get_or-append_right zs (x ∷ []) i i Number count (omega arith) ∙ ap (λ k. get_or (x ∷ []) k Number) (let z : i - i ≡ 0 = omega arith in z) in
    below_more (λ j. P (63 - j) (get_or (zs ++ x ∷ []) j Number)) i
    (λ j lt. subst (P (63 - j)) (sym (get_or_append_left zs (x ∷ []) Number j (omega arith))) (h j lt))
    (subst (P (63 - i)) (sym last) here)

-- the property then holds for each place
pub built_all : (P : ℕ → Abs → Type 0) (zs : List Abs) (n : ℕ) → length zs ≡ n → AreBuilt P zs n → ((place : ℕ) → place ≤ 63 → n + place ≤ 63 → P place Number) → (place : ℕ) → place ≤ 63 → P place (from_last zs place)
built_all P zs n count h rest place le =
    subst (P place) (sym (from-in zs place le)) (⊎_elim
    (λ lt. let back : 63 - (63 - place) ≡ place = omega arith in subst (λ p. P p (get_or zs (63 - place) Number)) back (h (63 - place) lt))
    (λ ge. subst (P place) (sym (get_or_past zs (63 - place) Number (omega arith))) (rest place le (omega arith)))
    (cases_lt (63 - place) n))

pub built_list : (g : KnownPlaces) (zs : List Abs) (n : ℕ) → length zs ≡ n → AreBuilt (λ place x. x ≡ g place) zs n → ((place : ℕ) → place ≤ 63 → n + place ≤ 63 → g place ≡ Number) → listed_places (from_last zs) ≡ listed_places g
built_list g zs n count h rest = listed_same (from_last zs) g (λ place lt. built_all (λ place x. x ≡ g place) zs n count h (λ place le past. sym (rest place le past)) place (omega arith))

-- a property holds for each place if it holds for the first `n` places from the last one down, for the other places,
-- which have data, and for numbers above the last place
pub each_place : (P : ℕ → Type 0) (n : ℕ) → ((i : ℕ) → i < n → P (63 - i)) → ((place : ℕ) → n + place ≤ 63 → P place) → ((place : ℕ) → 63 < place → P place) → (place : ℕ) → P place
each_place P n here rest past place =
    ⊎_elim
    (λ lt. ⊎_elim (λ inside. let back : 63 - (63 - place) ≡ place = omega arith in subst P back (here (63 - place) inside)) (λ ge. rest place (omega arith)) (cases_lt (63 - place) n))
    (λ le. past place (omega arith)) (cases_lt place 64)

-- ---- the effect of each change on a place with data

not_same : (m n : ℕ) → m ≢ n → eqb m n ≡ false
not_same m n ne = grind (arith, nat_tests)

pub with_place-other : (place : ℕ) (v : Abs) (f : KnownPlaces) (other : ℕ) → other ≢ place → with_place place v f other ≡ f other
with_place-other place v f other ne = rw (not_same other place ne) refl

pub with_data-data : (at len : ℕ) (f : KnownPlaces) (place : ℕ) → f place ≡ Number → with_data at len f place ≡ Number
with_data-data at len f place e = elim (touches at len place) as (λ b. (if b then Number else f place) ≡ Number) [ true ↦ refl | false ↦ e ]

pub after_change-data : (change : Change) → place_after change Number ≡ Number
after_change-data (IsNull id) = refl
after_change-data (IsThere id) = refl
after_change-data (GivenBack id) = refl

pub data_join : IsJoinValue Number Number Number
data_join = record { left = tt; right = tt; least = λ u a b. a }

-- ---- tests of places

pub any_place-false : (test : ℕ → Bool) (n : ℕ) → ((place : ℕ) → place < n → test place ≡ false) → any_place test n ≡ false
any_place-false test zero h = refl
any_place-false test (suc n) h = rw (h n (omega arith)) (any_place-false test n (λ place lt. h place (omega arith)))

or_true : (b : Bool) → (b || true) ≡ true
or_true true = refl
or_true false = refl

pub any_place-true : (test : ℕ → Bool) (n place : ℕ) → test place ≡ true → place < n → any_place test n ≡ true
any_place-true test zero place t lt = absurd (omega arith)
any_place-true test (suc n) place t lt =
    ⊎_elim (λ below. ap (λ b. test n || b) (any_place-true test n place t below) ∙ or_true (test n)) (λ ge. let same : place ≡ n = omega arith in rw (subst (λ p. test p ≡ true) same t) refl) (cases_lt place n)

pub touched_inside : (at len place : ℕ) → touches at len place ≡ true → place < at + len
touched_inside at len place t = grind (arith, nat_tests)

and_false : (b : Bool) → (b && false) ≡ false
and_false true = refl
and_false false = refl

-- a place with data holds no pointer
pub not_kept : (b : Bool) (v : Abs) → v ≡ Number → (b && not (is_data v)) ≡ false
not_kept b v e = ap (λ v. b && not (is_data v)) e ∙ and_false b

-- the result of the test for a number
pub data_tested : (b : Bool) (v : Abs) → (IsTrue b ↔ IsNumber v) → b ≡ is_data v
data_tested true Number h = refl
data_tested true (Known n) h = refl
data_tested true Unreadable h = absurd (h.0 refl)
data_tested true (Ctx o) h = absurd (h.0 refl)
data_tested true (Stack o) h = absurd (h.0 refl)
data_tested true (Ring n) h = absurd (h.0 refl)
data_tested true (Perhaps n) h = absurd (h.0 refl)
data_tested true (Record n o) h = absurd (h.0 refl)
data_tested false Number h = let e : false ≡ true = h.1 tt in absurd (cc)
data_tested false (Known n) h = let e : false ≡ true = h.1 tt in absurd (cc)
data_tested false Unreadable h = refl
data_tested false (Ctx o) h = refl
data_tested false (Stack o) h = refl
data_tested false (Ring n) h = refl
data_tested false (Perhaps n) h = refl
data_tested false (Record n o) h = refl
