-- The digits that are kept of a text, byte by byte.
use Rattle.std.proofs.Common.{◌≡◌, ℕ, ◌≤◌, ◌⊎◌, inl, inr, ◌≢◌, Bool, true, false, List, [], ◌∷◌, ◌++◌, length, take, drop, refl, sym, ap, subst, ◌∙◌, arith}
use Rattle.std.specs.Prelude.{◌==◌, if◌then◌else◌}
use Rattle.std.specs.List.{list_all}
use Rattle.std.specs.Char.{is_ascii_hexdigit, is_ascii_whitespace}
use Rattle.std.proofs.lemmas.Bool.{and_parts, eqb-true, eqb-false, eq-eqb, ne_eqb}
use Rattle.std.proofs.lemmas.List.{length-append, length-take, take-append-drop}
use Rattle.std.proofs.lemmas.List.Folds.{list_all-append}
use Rattle.rb_program.specs.Text.{without_white_space}
use Rattle.rb_loader.specs.inner.Digits.{AreManyDigits, KeepsOf, one_more, shortened}
use Rattle.rb_loader.proofs.DigitLists.{digit_behind, space_behind}

-- ---- the list of digits

pub shortened_full : (kept : List ℕ) → length kept ≡ 65568 → take 65552 kept ≡ shortened kept
shortened_full kept h = let e = eq-eqb (length kept) 65568 h in rw e refl

pub shortened_not : (kept : List ℕ) → length kept ≢ 65568 → kept ≡ shortened kept
shortened_not kept h = let e = ne_eqb (length kept) 65568 h in rw e refl

front_digits : (n : ℕ) (kept : List ℕ) → list_all is_ascii_hexdigit kept ≡ true → list_all is_ascii_hexdigit (take n kept) ≡ true
front_digits n kept all =
    (and_parts (list_all is_ascii_hexdigit (take n kept)) (list_all is_ascii_hexdigit (drop n kept))
    (sym (list_all-append is_ascii_hexdigit (take n kept) (drop n kept)) ∙ (ap (list_all is_ascii_hexdigit) (take-append-drop n kept) ∙ all))).0

short_digits : (kept : List ℕ) (full : Bool) → (length kept == 65568) ≡ full → list_all is_ascii_hexdigit kept ≡ true → length kept ≤ 65568
    → (list_all is_ascii_hexdigit (if full then take 65552 kept else kept) ≡ true) × (length (if full then take 65552 kept else kept) ≤ 65567)
short_digits kept true is all few = (front_digits 65552 kept all, let t = length-take 65552 kept in omega (arith, t))
short_digits kept false is all few = (all, let n = eqb-false (length kept) 65568 is in omega (arith, n))

-- the digits that are kept after one more arrives
kept_on : (kept : List ℕ) → list_all is_ascii_hexdigit kept ≡ true → length kept ≤ 65568
    → (list_all is_ascii_hexdigit (shortened kept) ≡ true) × (length (shortened kept) ≤ 65567)
kept_on kept all few = short_digits kept (length kept == 65568) refl all few

pub kept_still : (kept : List ℕ) → list_all is_ascii_hexdigit kept ≡ true → length kept ≤ 65568
    → (list_all is_ascii_hexdigit (shortened kept) ≡ true) × (length (shortened kept) ≤ 65568)
kept_still kept all few = let short = kept_on kept all few in let l = short.1 in (short.0, omega (arith, l))

pub kept_one_more : (kept : List ℕ) (c : ℕ) → is_ascii_hexdigit c ≡ true → list_all is_ascii_hexdigit kept ≡ true → length kept ≤ 65568
    → (list_all is_ascii_hexdigit (one_more kept c) ≡ true) × (length (one_more kept c) ≤ 65568)
kept_one_more kept c digit all few =
    let short = kept_on kept all few in
    let a = short.0 in
    let l = short.1 in
    let n = length-append (shortened kept) (c ∷ []) in
    (list_all-append is_ascii_hexdigit (shortened kept) (c ∷ []) ∙ rw (a, digit) refl, omega (arith, n, l))

-- ---- the text that they are kept of

pub keeps_none : KeepsOf [] []
keeps_none = record { are_digits = refl; kept_are = inl refl }

pub keeps_space : (text kept : List ℕ) (c : ℕ) → is_ascii_whitespace c ≡ true → KeepsOf text kept → KeepsOf (text ++ c ∷ []) kept
keeps_space text kept c space keeps =
    let same = sym (space_behind text c space) in
    record {
      are_digits = subst (λ l. list_all is_ascii_hexdigit l ≡ true) same keeps.are_digits;
      kept_are = subst (λ l. (kept ≡ l) ⊎ AreManyDigits l kept) same keeps.kept_are;
    }

-- one more digit, whether or not a unit is dropped first
module _ (all kept : List ℕ) (c : ℕ) where
  grown : (kept ≡ all) ⊎ AreManyDigits all kept → (kept ++ c ∷ [] ≡ all ++ c ∷ []) ⊎ AreManyDigits (all ++ c ∷ []) (kept ++ c ∷ [])
  grown (inl same) = inl (ap (λ l. l ++ c ∷ []) same)
  grown (inr many) =
      let a = length-append all (c ∷ []) in
      let k = length-append kept (c ∷ []) in
      let m = many.all_many in
      let n = many.kept_many in
      let e = many.alike in
      inr (record { all_many = omega (arith, a, m); kept_many = omega (arith, k, n); alike = omega (arith, a, k, e) })

  cut_short : length kept ≡ 65568 → (kept ≡ all) ⊎ AreManyDigits all kept → AreManyDigits (all ++ c ∷ []) (take 65552 kept ++ c ∷ [])
  cut_short full (inl same) =
      let a = length-append all (c ∷ []) in
      let k = length-append (take 65552 kept) (c ∷ []) in
      let t = length-take 65552 kept in
      let e = ap length same in
      record { all_many = omega (arith, a, e, full); kept_many = omega (arith, k, t, full); alike = omega (arith, a, k, t, e, full) }
  cut_short full (inr many) =
      let a = length-append all (c ∷ []) in
      let k = length-append (take 65552 kept) (c ∷ []) in
      let t = length-take 65552 kept in
      let m = many.all_many in
      let e = many.alike in
      record { all_many = omega (arith, a, m); kept_many = omega (arith, k, t, full); alike = omega (arith, a, k, t, e, full) }

  next : (full : Bool) → (length kept == 65568) ≡ full → (kept ≡ all) ⊎ AreManyDigits all kept
      → ((if full then take 65552 kept else kept) ++ c ∷ [] ≡ all ++ c ∷ []) ⊎ AreManyDigits (all ++ c ∷ []) ((if full then take 65552 kept else kept) ++ c ∷ [])
  next true is before = inr (cut_short (eqb-true (length kept) 65568 is) before)
  next false is before = grown before

pub keeps_digit : (text kept : List ℕ) (c : ℕ) → is_ascii_hexdigit c ≡ true → KeepsOf text kept → KeepsOf (text ++ c ∷ []) (one_more kept c)
keeps_digit text kept c digit keeps =
    let same = sym (digit_behind text c digit) in
    let both : list_all is_ascii_hexdigit (without_white_space text ++ c ∷ []) ≡ true =
    list_all-append is_ascii_hexdigit (without_white_space text) (c ∷ []) ∙ (let a = keeps.are_digits in rw (a, digit) refl)
    in
    record {
      are_digits = subst (λ l. list_all is_ascii_hexdigit l ≡ true) same both;
      kept_are = subst (λ l. (one_more kept c ≡ l) ⊎ AreManyDigits l (one_more kept c)) same (next (without_white_space text) kept c (length kept == 65568) refl keeps.kept_are);
    }
