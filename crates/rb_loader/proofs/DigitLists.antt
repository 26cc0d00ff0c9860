-- Lists of hex digits, and texts without their white space.
use Rattle.std.proofs.Common.{◌≡◌, ◌<◌, zero, suc, slice_index, ℕ, ◌+◌, ◌*◌, ◌%◌, Bool, true, false, ◌&&◌, ◌||◌, List, [], ◌∷◌, ◌++◌, length, refl, sym, ap, ◌∙◌, arith, append-nil}
use Rattle.std.specs.Prelude.{not, IsUtf8}
use Rattle.std.specs.List.{list_all}
use Rattle.std.specs.Char.{is_ascii_hexdigit, is_ascii_whitespace}
use Rattle.std.proofs.lemmas.Bool.{and_parts}
use Rattle.std.proofs.lemmas.Str.{IsUtf8-from_ascii}
use Rattle.std.proofs.lemmas.List.Elements.{filter-append}
use Rattle.std.proofs.lemmas.List.Folds.{list_all-append}
use Rattle.rb_program.specs.Text.{IsHexOf, without_white_space}
use Rattle.rb_loader.specs.inner.Digits.{has_odd, is_odd}
use Rattle.rb_loader.proofs.DigitTests.{digit_value, digit_test, digit_no_space, digit_is_ascii}

-- ---- texts without their white space

kept : (c : ℕ) (digits : List ℕ) → is_ascii_whitespace c ≡ false → without_white_space (c ∷ digits) ≡ c ∷ without_white_space digits
kept c digits h = rw h refl

left_out : (c : ℕ) (digits : List ℕ) → is_ascii_whitespace c ≡ true → without_white_space (c ∷ digits) ≡ without_white_space digits
left_out c digits h = rw h refl

pub digits_stay : (digits : List ℕ) → list_all is_ascii_hexdigit digits ≡ true → without_white_space digits ≡ digits
digits_stay [] all = refl
digits_stay (c ∷ digits) all =
    let parts = and_parts (is_ascii_hexdigit c) (list_all is_ascii_hexdigit digits) all in
    kept c digits (digit_no_space c parts.0) ∙ ap (λ l. c ∷ l) (digits_stay digits parts.1)

pub digit_behind : (text : List ℕ) (c : ℕ) → is_ascii_hexdigit c ≡ true → without_white_space (text ++ c ∷ []) ≡ without_white_space text ++ c ∷ []
digit_behind text c h =
    filter-append (λ c. not (is_ascii_whitespace c)) text (c ∷ []) ∙ ap (λ l. without_white_space text ++ l) (kept c [] (digit_no_space c h))

pub space_behind : (text : List ℕ) (c : ℕ) → is_ascii_whitespace c ≡ true → without_white_space (text ++ c ∷ []) ≡ without_white_space text
space_behind text c h =
    filter-append (λ c. not (is_ascii_whitespace c)) text (c ∷ []) ∙ (ap (λ l. without_white_space text ++ l) (left_out c [] h) ∙ append-nil (without_white_space text))

-- ---- a byte that is neither a digit nor white space

odd_parts : (space digit : Bool) → not (space || digit) ≡ true → (space ≡ false) × (digit ≡ false)
odd_parts true digit h = absurd cc
odd_parts false true h = absurd cc
odd_parts false false h = (refl, refl)

odd_one : (c : ℕ) (rest : List ℕ) → is_odd c ≡ true → list_all is_ascii_hexdigit (without_white_space (c ∷ rest)) ≡ true → ⊥
odd_one c rest odd all =
    let parts = odd_parts (is_ascii_whitespace c) (is_ascii_hexdigit c) odd in
    let there : list_all is_ascii_hexdigit (c ∷ without_white_space rest) ≡ true = sym (ap (list_all is_ascii_hexdigit) (kept c rest parts.0)) ∙ all in
    let is = (and_parts (is_ascii_hexdigit c) (list_all is_ascii_hexdigit (without_white_space rest)) there).0 in
    let other = parts.1 in absurd (cc)

rest_all : (c : ℕ) (rest : List ℕ) → (space : Bool) → is_ascii_whitespace c ≡ space → list_all is_ascii_hexdigit (without_white_space (c ∷ rest)) ≡ true
    → list_all is_ascii_hexdigit (without_white_space rest) ≡ true
rest_all c rest true space all = sym (ap (list_all is_ascii_hexdigit) (left_out c rest space)) ∙ all
rest_all c rest false space all =
    let there : list_all is_ascii_hexdigit (c ∷ without_white_space rest) ≡ true = sym (ap (list_all is_ascii_hexdigit) (kept c rest space)) ∙ all in
    (and_parts (is_ascii_hexdigit c) (list_all is_ascii_hexdigit (without_white_space rest)) there).1

-- a text with such a byte is not all digits and white space
odd_cases : (c : ℕ) (text rest : List ℕ) (odd : Bool) → is_odd c ≡ odd → (odd || has_odd text) ≡ true → (has_odd text ≡ true → list_all is_ascii_hexdigit (without_white_space (text ++ rest)) ≡ true → ⊥)
    → list_all is_ascii_hexdigit (without_white_space (c ∷ (text ++ rest))) ≡ true → ⊥
odd_cases c text rest true is any later all = odd_one c (text ++ rest) is all
odd_cases c text rest false is any later all = later any (rest_all c (text ++ rest) (is_ascii_whitespace c) refl all)

odd_front : (text rest : List ℕ) → has_odd text ≡ true → list_all is_ascii_hexdigit (without_white_space (text ++ rest)) ≡ true → ⊥
odd_front [] rest any all = absurd cc
odd_front (c ∷ text) rest any all = odd_cases c text rest (is_odd c) refl any (λ later. odd_front text rest later) all

pub odd_text : (before text rest : List ℕ) → has_odd text ≡ true → list_all is_ascii_hexdigit (without_white_space (before ++ (text ++ rest))) ≡ true → ⊥
odd_text before text rest any all =
    let both : (list_all is_ascii_hexdigit (without_white_space before) && list_all is_ascii_hexdigit (without_white_space (text ++ rest))) ≡ true =
    sym (list_all-append is_ascii_hexdigit (without_white_space before) (without_white_space (text ++ rest)))
    ∙ (sym (ap (list_all is_ascii_hexdigit) (filter-append (λ c. not (is_ascii_whitespace c)) before (text ++ rest))) ∙ all)
    in
    odd_front text rest any (and_parts (list_all is_ascii_hexdigit (without_white_space before)) (list_all is_ascii_hexdigit (without_white_space (text ++ rest))) both).1

-- ---- digits as text

pub digits_ascii : (digits : List ℕ) → list_all is_ascii_hexdigit digits ≡ true → (i : ℕ) → slice_index digits i < 128
digits_ascii [] all i = omega arith
digits_ascii (c ∷ digits) all zero = digit_is_ascii c (and_parts (is_ascii_hexdigit c) (list_all is_ascii_hexdigit digits) all).0
digits_ascii (c ∷ digits) all (suc i) = digits_ascii digits (and_parts (is_ascii_hexdigit c) (list_all is_ascii_hexdigit digits) all).1 i

pub digits_utf8 : (digits : List ℕ) → list_all is_ascii_hexdigit digits ≡ true → IsUtf8 digits
digits_utf8 digits all = IsUtf8-from_ascii digits (digits_ascii digits all)

-- ---- digits and their bytes

pub hex_length : (digits bytes : List ℕ) → IsHexOf digits bytes → length digits ≡ 2 * length bytes
hex_length [] [] h = refl
hex_length [] (byte ∷ bytes) h = absurd h
hex_length (digit ∷ []) bytes h = absurd h
hex_length (high ∷ low ∷ digits) [] h = absurd h
hex_length (high ∷ low ∷ digits) (byte ∷ bytes) h = omega (arith, hex_length digits bytes h.5)

pub hex_digits : (digits bytes : List ℕ) → IsHexOf digits bytes → list_all is_ascii_hexdigit digits ≡ true
hex_digits [] [] h = refl
hex_digits [] (byte ∷ bytes) h = absurd h
hex_digits (digit ∷ []) bytes h = absurd h
hex_digits (high ∷ low ∷ digits) [] h = absurd h
hex_digits (high ∷ low ∷ digits) (byte ∷ bytes) h =
    let a = digit_test high h.0 h.2 in
    let b = digit_test low h.1 h.3 in
    let c = hex_digits digits bytes h.5 in
    rw (a, b) c

pub digits_hex : (digits : List ℕ) → list_all is_ascii_hexdigit digits ≡ true → length digits % 2 ≡ 0 → (bytes : List ℕ) × IsHexOf digits bytes
digits_hex [] all even = ([], tt)
digits_hex (digit ∷ []) all even = absurd (omega (arith, even))
digits_hex (high ∷ low ∷ digits) all even =
    let first = and_parts (is_ascii_hexdigit high) (is_ascii_hexdigit low && list_all is_ascii_hexdigit digits) all in
    let second = and_parts (is_ascii_hexdigit low) (list_all is_ascii_hexdigit digits) first.1 in
    let h = digit_value high first.0 in
    let l = digit_value low second.0 in
    let rest = digits_hex digits second.1 (omega (arith, even)) in
    ((16 * h.0 + l.0) ∷ rest.0, (h.0, l.0, h.1, l.1, refl, rest.1))
