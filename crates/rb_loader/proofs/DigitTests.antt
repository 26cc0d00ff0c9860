-- Hex digits and white space, as tests and as numbers.
use Rattle.std.proofs.Common.{◌≡◌, ℕ, ◌-◌, ◌<◌, ◌≤◌, ◌⊎◌, inl, inr, Bool, true, false, ◌||◌, leb, refl, arith}
use Rattle.std.proofs.lemmas.Bool.{and_parts, leb-true, le-leb}
use Rattle.std.specs.Int.{is_in_range}
use Rattle.std.specs.Char.{is_ascii_hexdigit, is_ascii_whitespace}
use Rattle.rb_program.specs.Text.{IsHexDigit}

not_true : (b : Bool) → (b ≡ true → ⊥) → b ≡ false
not_true true h = absurd (h refl)
not_true false h = refl

or_true : (a b : Bool) → (a || b) ≡ true → (a ≡ true) ⊎ (b ≡ true)
or_true true b h = inl refl
or_true false b h = inr h

or_left : (a b : Bool) → a ≡ true → (a || b) ≡ true
or_left true b h = refl
or_left false b h = absurd cc

or_right : (a b : Bool) → b ≡ true → (a || b) ≡ true
or_right true b h = refl
or_right false b h = h

within : (lo hi c : ℕ) → is_in_range lo hi c ≡ true → (lo ≤ c) × (c ≤ hi)
within lo hi c h = let parts = and_parts (leb lo c) (leb c hi) h in (leb-true lo c parts.0, leb-true c hi parts.1)

is_within : (lo hi c : ℕ) → lo ≤ c → c ≤ hi → is_in_range lo hi c ≡ true
is_within lo hi c low high = let l = le-leb lo c low in let h = le-leb c hi high in rw (l, h) refl

-- a digit has a value
pub digit_value : (c : ℕ) → is_ascii_hexdigit c ≡ true → (v : ℕ) × IsHexDigit c v
digit_value c h =
    elim (or_true (is_in_range 48 57 c || is_in_range 65 70 c) (is_in_range 97 102 c) h) [
      | inl h ↦ elim (or_true (is_in_range 48 57 c) (is_in_range 65 70 c) h) [
        | inl h ↦ let r = within 48 57 c h in (c - 48, inl (r.0, r.1, omega arith))
        | inr h ↦ let r = within 65 70 c h in (c - 55, inr (inl (r.0, r.1, omega arith)))
      ]
      | inr h ↦ let r = within 97 102 c h in (c - 87, inr (inr (r.0, r.1, omega arith)))
    ]

pub digit_test : (c v : ℕ) → IsHexDigit c v → is_ascii_hexdigit c ≡ true
digit_test c v h =
    elim h [
      | inl r ↦ or_left (is_in_range 48 57 c || is_in_range 65 70 c) (is_in_range 97 102 c) (or_left (is_in_range 48 57 c) (is_in_range 65 70 c) (is_within 48 57 c r.0 r.1))
      | inr h ↦ elim h [
        | inl r ↦ or_left (is_in_range 48 57 c || is_in_range 65 70 c) (is_in_range 97 102 c) (or_right (is_in_range 48 57 c) (is_in_range 65 70 c) (is_within 65 70 c r.0 r.1))
        | inr r ↦ or_right (is_in_range 48 57 c || is_in_range 65 70 c) (is_in_range 97 102 c) (is_within 97 102 c r.0 r.1)
      ]
    ]

digit_bounds : (c : ℕ) → is_ascii_hexdigit c ≡ true → (48 ≤ c) × (c ≤ 102)
digit_bounds c h =
    elim (or_true (is_in_range 48 57 c || is_in_range 65 70 c) (is_in_range 97 102 c) h) [
      | inl h ↦ elim (or_true (is_in_range 48 57 c) (is_in_range 65 70 c) h) [
        | inl h ↦ let r = within 48 57 c h in (r.0, omega arith)
        | inr h ↦ let r = within 65 70 c h in (omega arith, omega arith)
      ]
      | inr h ↦ let r = within 97 102 c h in (omega arith, r.1)
    ]

space_bound : (c : ℕ) → is_ascii_whitespace c ≡ true → c ≤ 32
space_bound c h =
    elim (or_true (is_in_range 9 10 c || is_in_range 12 13 c) (is_in_range 32 32 c) h) [
      | inl h ↦ elim (or_true (is_in_range 9 10 c) (is_in_range 12 13 c) h) [
        | inl h ↦ let r = within 9 10 c h in omega arith
        | inr h ↦ let r = within 12 13 c h in omega arith
      ]
      | inr h ↦ let r = within 32 32 c h in omega arith
    ]

-- a digit is not white space, and is ASCII
pub digit_no_space : (c : ℕ) → is_ascii_hexdigit c ≡ true → is_ascii_whitespace c ≡ false
digit_no_space c h = not_true (is_ascii_whitespace c) (λ s. let b = digit_bounds c h in let l = space_bound c s in absurd (omega arith))

pub digit_is_ascii : (c : ℕ) → is_ascii_hexdigit c ≡ true → c < 128
digit_is_ascii c h = let b = digit_bounds c h in omega arith
