-- The code's signed operations agree with the definitions.
use Rattle.std.proofs.Common.{◌≡◌, ℕ, zero, suc, ◌+◌, ◌-◌, ◌/◌, ◌%◌, ◌^◌, ◌<◌, ◌≤◌, ℤ, pos, negsuc, ◌+ℤ◌, ◌-ℤ◌, ◌*ℤ◌, neg_ℤ, refl, sym, ◌∙◌, ap, arith, w8, w16, w32, w64, ⊎_elim}
use Rattle.std.proofs.lemmas.Int.{ints, quot-rem, of_z-to_z}
use Rattle.std.proofs.lemmas.Bool.{cases_lt}
use Rattle.std.proofs.lemmas.Bool.Decides.{nat_tests}
use Rattle.std.proofs.Math.Nat.{div-le_self}
use Rattle.std.specs.Prelude.{int_div, int_rem}
use Rattle.std.specs.Int.{cast_signed, cast_unsigned, int_shr, int_wrapping_div}
use lib.Signed.{mag, mag_rem, mag_shr}
use Rattle.rb_insn.specs.declared.insn.Width.{Width}
use Rattle.rb_insn.specs.declared.insn.Width.TheVariants.{W32, W64}
use Rattle.rb_insn.specs.WholeNumbers.{low_bits, signed_of, wrapped, floor_div, remainder}
use Rattle.rb_insn.specs.ArithmeticAndJumps.{bits_of}

-- casting a value to the signed type reads it as signed
pub signed_of-cast_8 : (n : ℕ) → n < 2 ^ 8 → cast_signed w8 n ≡ signed_of 8 n
unfolding signed_of
signed_of-cast_8 n small = grind (arith, nat_tests, ints)

pub signed_of-cast_16 : (n : ℕ) → n < 2 ^ 16 → cast_signed w16 n ≡ signed_of 16 n
unfolding signed_of
signed_of-cast_16 n small = grind (arith, nat_tests, ints)

pub signed_of-cast_32 : (n : ℕ) → n < 2 ^ 32 → cast_signed w32 n ≡ signed_of 32 n
unfolding signed_of
signed_of-cast_32 n small = grind (arith, nat_tests, ints)

pub signed_of-cast_64 : (n : ℕ) → n < 2 ^ 64 → cast_signed w64 n ≡ signed_of 64 n
unfolding signed_of
signed_of-cast_64 n small = grind (arith, nat_tests, ints)

-- a value of 32 or 64 bits, read as signed, fits a signed 64-bit integer
pub signed_of-small : (width : Width) (n : ℕ) → n < 2 ^ bits_of width → mag (signed_of (bits_of width) n) < 2 ^ 63
unfolding signed_of
signed_of-small W32 n small = grind (arith, nat_tests, ints)
signed_of-small W64 n small = grind (arith, nat_tests, ints)

-- it is 0 only if the value is
pub signed_of-zero : (width : Width) (n : ℕ) → n < 2 ^ bits_of width → signed_of (bits_of width) n ≡ pos 0 → n ≡ 0
unfolding signed_of
signed_of-zero W32 n small none = grind (arith, nat_tests, ints)
signed_of-zero W64 n small none = grind (arith, nat_tests, ints)

-- reducing a number modulo 2 ^ 64 keeps its low bits
pub low_bits-mod : (width : Width) (n : ℕ) → low_bits (bits_of width) (n % 2 ^ 64) ≡ low_bits (bits_of width) n
low_bits-mod W32 n = omega arith
low_bits-mod W64 n = omega arith

-- the low bits of a signed number, cast to 64 bits, are the number wrapped to the width
pub low_bits-cast : (width : Width) (z : ℤ) → mag z < 2 ^ 64 → low_bits (bits_of width) (cast_unsigned w64 z) ≡ wrapped (bits_of width) z
unfolding wrapped
low_bits-cast width (pos n) small = refl
low_bits-cast W64 (negsuc n) small = omega arith
low_bits-cast W32 (negsuc n) small = omega arith

pub wrapped-difference : (width : Width) (a b : ℕ) → a < 2 ^ 64 → b < 2 ^ 64 → low_bits (bits_of width) ((a + (2 ^ 64 - b)) % 2 ^ 64) ≡ wrapped (bits_of width) (pos a -ℤ pos b)
wrapped-difference width a b small_a small_b = ⊎_elim (λ less. below less) (λ more. above more) (cases_lt a b)
  where
    below : a < b → low_bits (bits_of width) ((a + (2 ^ 64 - b)) % 2 ^ 64) ≡ wrapped (bits_of width) (pos a -ℤ pos b)
    below less =
        let value : (a + (2 ^ 64 - b)) % 2 ^ 64 ≡ cast_unsigned w64 (negsuc (b - a - 1)) = omega arith in
        let difference : pos a -ℤ pos b ≡ negsuc (b - a - 1) = omega (arith, ints) in
        ap (low_bits (bits_of width)) value ∙ low_bits-cast width (negsuc (b - a - 1)) (omega arith) ∙ ap (wrapped (bits_of width)) (sym difference)

    above : b ≤ a → low_bits (bits_of width) ((a + (2 ^ 64 - b)) % 2 ^ 64) ≡ wrapped (bits_of width) (pos a -ℤ pos b)
    above more =
        let value : (a + (2 ^ 64 - b)) % 2 ^ 64 ≡ cast_unsigned w64 (pos (a - b)) = omega arith in
        let difference : pos a -ℤ pos b ≡ pos (a - b) = omega (arith, ints) in
        ap (low_bits (bits_of width)) value ∙ low_bits-cast width (pos (a - b)) (omega arith) ∙ ap (wrapped (bits_of width)) (sym difference)

pub wrapped-neg : (width : Width) (n r : ℕ) → n < 2 ^ 64 → r < 2 ^ 64 → (r + n) % 2 ^ 64 ≡ 0 → low_bits (bits_of width) r ≡ wrapped (bits_of width) (neg_ℤ (pos n))
unfolding wrapped
wrapped-neg W32 zero r small_n small_r sum = omega arith
wrapped-neg W64 zero r small_n small_r sum = omega arith
wrapped-neg W32 (suc n) r small_n small_r sum = omega arith
wrapped-neg W64 (suc n) r small_n small_r sum = omega arith

-- an arithmetic shift right rounds down
pub floor_div-shr : (z : ℤ) (k : ℕ) → int_shr z k ≡ floor_div z (2 ^ k)
unfolding floor_div
floor_div-shr (pos n) k = refl
floor_div-shr (negsuc n) k = refl

pub remainder-rem : (x y : ℤ) → int_rem x y ≡ remainder x y
unfolding remainder
remainder-rem x y = rest (int_div x y *ℤ y) (int_rem x y) x (quot-rem x y)
  where
    rest : (p r a : ℤ) → p +ℤ r ≡ a → r ≡ a -ℤ p
    rest p r a sum = omega (arith, ints)

mag-neg : (n : ℕ) → mag (neg_ℤ (pos n)) ≤ n
mag-neg zero = omega arith
mag-neg (suc n) = omega arith

-- a quotient is no larger in magnitude than the dividend
pub mag_div : (x y : ℤ) → mag x < 2 ^ 63 → mag (int_div x y) < 2 ^ 64
mag_div (pos a) (pos b) small = omega (arith, div-le_self a b)
mag_div (pos a) (negsuc b) small = omega (arith, mag-neg (a / suc b), div-le_self a (suc b))
mag_div (negsuc a) (pos b) small = omega (arith, mag-neg (suc a / b), div-le_self (suc a) b)
mag_div (negsuc a) (negsuc b) small = omega (arith, div-le_self (suc a) (suc b))

-- the low bits of the code's 64-bit quotient and remainder
pub wrapped-div : (width : Width) (x y : ℤ) → mag x < 2 ^ 63 → low_bits (bits_of width) (cast_unsigned w64 (int_wrapping_div w64 x y)) ≡ wrapped (bits_of width) (int_div x y)
wrapped-div width x y small = ap (low_bits (bits_of width)) (of_z-to_z w64 (cast_unsigned w64 (int_div x y)) (fits (int_div x y) (mag_div x y small))) ∙ low_bits-cast width (int_div x y) (mag_div x y small)
  where
    fits : (z : ℤ) → mag z < 2 ^ 64 → cast_unsigned w64 z < 2 ^ 64
    fits (pos n) h = h
    fits (negsuc n) h = omega arith

pub wrapped-rem : (width : Width) (x y : ℤ) → mag x < 2 ^ 63 → low_bits (bits_of width) (cast_unsigned w64 (int_rem x y)) ≡ wrapped (bits_of width) (remainder x y)
wrapped-rem width x y small = low_bits-cast width (int_rem x y) (omega (arith, mag_rem x y)) ∙ ap (wrapped (bits_of width)) (remainder-rem x y)

pub wrapped-shr : (width : Width) (z : ℤ) (k : ℕ) → mag z < 2 ^ 63 → low_bits (bits_of width) (cast_unsigned w64 (int_shr z k)) ≡ wrapped (bits_of width) (floor_div z (2 ^ k))
wrapped-shr width z k small = low_bits-cast width (int_shr z k) (omega (arith, mag_shr z (2 ^ k))) ∙ ap (wrapped (bits_of width)) (floor_div-shr z k)

pub wrapped-cast_64 : (z : ℤ) → mag z < 2 ^ 63 → cast_unsigned w64 z ≡ wrapped 64 z
unfolding wrapped
wrapped-cast_64 (pos n) small = omega arith
wrapped-cast_64 (negsuc n) small = omega arith

pub wrapped-cast_32 : (z : ℤ) → mag z < 2 ^ 31 → cast_unsigned w32 z ≡ wrapped 32 z
unfolding wrapped
wrapped-cast_32 (pos n) small = omega arith
wrapped-cast_32 (negsuc n) small = omega arith
