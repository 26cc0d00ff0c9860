-- Lemmas about the definitions, for the crates above.
use Rattle.std.proofs.Common.{◌≡◌, ℕ, zero, suc, ◌/◌, ◌%◌, ◌^◌, ◌<◌, ℤ, pos, negsuc, not, eqb, refl, sym, arith, w64}
use Rattle.std.proofs.lemmas.Bool.{cond_both}
use Rattle.std.proofs.lemmas.Int.{ints}
use Rattle.std.proofs.lemmas.Nat.{or_lt, xor_lt, and_le_l, shr_le, mul-add-lt, pow_pos}
use Rattle.std.proofs.lemmas.Bool.Decides.{nat_tests}
use Rattle.std.proofs.Math.Nat.{div-le_self, mod-le}
use Rattle.std.specs.Int.{cast_signed}
use lib.Signed.{mag}
use Rattle.rb_insn.specs.declared.reg.Reg.{Reg}
use Rattle.rb_insn.specs.declared.insn.Width.{Width}
use Rattle.rb_insn.specs.declared.insn.Width.TheVariants.{W32, W64}
use Rattle.rb_insn.specs.declared.insn.BinaryOp.{BinaryOp}
use Rattle.rb_insn.specs.declared.insn.BinaryOp.TheVariants.{Add, Sub, Mul, Or, And, Lsh, Rsh, Xor, Arsh}
use Rattle.rb_insn.specs.declared.insn.DivisionOp.{DivisionOp}
use Rattle.rb_insn.specs.declared.insn.DivisionOp.TheVariants.{Div, Mod}
use Rattle.rb_insn.specs.declared.insn.Signedness.{Signedness}
use Rattle.rb_insn.specs.declared.insn.Signedness.TheVariants.{Unsigned, Signed}
use Rattle.rb_insn.specs.declared.insn.Operand.TheVariants.{Immediate, Register}
use Rattle.rb_insn.specs.declared.insn.Condition.TheVariants.{Equal, NotEqual}
use Rattle.rb_insn.specs.declared.insn.ByteOrder.{ByteOrder}
use Rattle.rb_insn.specs.declared.insn.ByteOrder.TheVariants.{Little, Big, Swap}
use Rattle.rb_insn.specs.declared.insn.SwapWidth.{SwapWidth}
use Rattle.rb_insn.specs.declared.insn.SwapWidth.TheVariants.{B16, B32, B64}
use Rattle.rb_insn.specs.declared.insn.Insn.{Insn}
use Rattle.rb_insn.specs.declared.insn.Insn.TheVariants.{Binary, Division, Negate, Move, MoveExtended32, MoveExtended64, Reorder, Branch}
use Rattle.rb_insn.specs.WholeNumbers.{low_bits, signed_of, wrapped, reversed_bytes, binary_of, unsigned_division, signed_division, condition_holds}
use Rattle.rb_insn.specs.ArithmeticAndJumps.{bits_of, operand_of, division_of, sign_extended, reordered, swap_bytes_of, IgnoresSource, IgnoresDestination, value_of, jumps_of}
use Rattle.rb_insn.proofs.Signed as signed

-- values have at most 64 bits

pub wrapped-lt : (bits : ℕ) (z : ℤ) → wrapped bits z < 2 ^ bits
unfolding wrapped
wrapped-lt bits (pos n) = omega (arith, pow_pos bits)
wrapped-lt bits (negsuc n) = omega (arith, pow_pos bits)

reversed_bytes-lt : (count n : ℕ) → reversed_bytes count n < 256 ^ count
unfolding reversed_bytes
reversed_bytes-lt zero n = omega arith
reversed_bytes-lt (suc count) n = omega (arith, mul-add-lt (n % 256) (256 ^ count) (reversed_bytes count (n / 256)) 256 (omega arith) (reversed_bytes-lt count (n / 256)))

binary_of-lt : (bits : ℕ) (op : BinaryOp) (a b : ℕ) → a < 2 ^ bits → b < 2 ^ bits → binary_of bits op a b < 2 ^ bits
unfolding binary_of
binary_of-lt bits Add a b small_a small_b = omega arith
binary_of-lt bits Sub a b small_a small_b = wrapped-lt bits _
binary_of-lt bits Mul a b small_a small_b = omega arith
binary_of-lt bits Or a b small_a small_b = or_lt bits a b small_a small_b
binary_of-lt bits And a b small_a small_b = omega (arith, and_le_l a b)
binary_of-lt bits Lsh a b small_a small_b = omega arith
binary_of-lt bits Rsh a b small_a small_b = omega (arith, shr_le a (b % bits))
binary_of-lt bits Xor a b small_a small_b = xor_lt bits a b small_a small_b
binary_of-lt bits Arsh a b small_a small_b = wrapped-lt bits _

division_of-lt : (sign : Signedness) (bits : ℕ) (op : DivisionOp) (a b : ℕ) → a < 2 ^ bits → division_of sign bits op a b < 2 ^ bits
unfolding division_of unsigned_division signed_division
division_of-lt Unsigned bits Div a b small = cond_both (eqb b 0) _ _ (λ x. x < 2 ^ bits) (λ _. omega arith) (λ _. omega (arith, div-le_self a b))
division_of-lt Unsigned bits Mod a b small = cond_both (eqb b 0) _ _ (λ x. x < 2 ^ bits) (λ _. small) (λ _. omega (arith, mod-le a b))
division_of-lt Signed bits Div a b small = cond_both (eqb b 0) _ _ (λ x. x < 2 ^ bits) (λ _. omega arith) (λ _. wrapped-lt bits _)
division_of-lt Signed bits Mod a b small = cond_both (eqb b 0) _ _ (λ x. x < 2 ^ bits) (λ _. small) (λ _. wrapped-lt bits _)

low_bits-lt : (width : Width) (n : ℕ) → low_bits (bits_of width) n < 2 ^ bits_of width
low_bits-lt W32 n = omega arith
low_bits-lt W64 n = omega arith

below_64 : (width : Width) (n : ℕ) → n < 2 ^ bits_of width → n < 2 ^ 64
below_64 W32 n small = omega arith
below_64 W64 n small = small

reordered-lt : (order : ByteOrder) (width : SwapWidth) (n : ℕ) → reordered order (swap_bytes_of width) n < 2 ^ 64
unfolding reordered
reordered-lt Little B16 n = omega arith
reordered-lt Little B32 n = omega arith
reordered-lt Little B64 n = omega arith
reordered-lt Big B16 n = omega (arith, reversed_bytes-lt 2 n)
reordered-lt Big B32 n = omega (arith, reversed_bytes-lt 4 n)
reordered-lt Big B64 n = omega (arith, reversed_bytes-lt 8 n)
reordered-lt Swap B16 n = omega (arith, reversed_bytes-lt 2 n)
reordered-lt Swap B32 n = omega (arith, reversed_bytes-lt 4 n)
reordered-lt Swap B64 n = omega (arith, reversed_bytes-lt 8 n)

-- an instruction's result fits 64 bits, for any register values
pub value_of-lt : (insn : Insn) (dst src : ℕ) → value_of insn dst src < 2 ^ 64
unfolding value_of sign_extended
value_of-lt (Binary width op _ operand) dst src = below_64 width _ (binary_of-lt (bits_of width) op _ _ (low_bits-lt width dst) (low_bits-lt width (operand_of operand src)))
value_of-lt (Division width op sign _ operand) dst src = below_64 width _ (division_of-lt sign (bits_of width) op _ _ (low_bits-lt width dst))
value_of-lt (Negate width _) dst src = below_64 width _ (wrapped-lt (bits_of width) _)
value_of-lt (Move width _ operand) dst src = below_64 width _ (low_bits-lt width (operand_of operand src))
value_of-lt (MoveExtended32 _ _ _) dst src = below_64 W32 _ (wrapped-lt 32 _)
value_of-lt (MoveExtended64 _ _ _) dst src = wrapped-lt 64 _
value_of-lt (Reorder order width _) dst src = reordered-lt order width dst
value_of-lt _ dst src = omega arith

-- what results do not depend on

pub value_of-source_unread : (insn : Insn) (dst a b : ℕ) → IgnoresSource insn → value_of insn dst a ≡ value_of insn dst b
unfolding value_of
value_of-source_unread (Binary _ _ _ (Immediate _)) dst a b unread = refl
value_of-source_unread (Division _ _ _ _ (Immediate _)) dst a b unread = refl
value_of-source_unread (Negate _ _) dst a b unread = refl
value_of-source_unread (Move _ _ (Immediate _)) dst a b unread = refl
value_of-source_unread (Reorder _ _ _) dst a b unread = refl
value_of-source_unread (Branch _ _ _ (Immediate _) _) dst a b unread = refl
value_of-source_unread _ dst a b unread = absurd unread

pub value_of-destination_unread : (insn : Insn) (a b src : ℕ) → IgnoresDestination insn → value_of insn a src ≡ value_of insn b src
unfolding value_of
value_of-destination_unread (Move _ _ _) a b src unread = refl
value_of-destination_unread (MoveExtended32 _ _ _) a b src unread = refl
value_of-destination_unread (MoveExtended64 _ _ _) a b src unread = refl
value_of-destination_unread _ a b src unread = absurd unread

pub jumps_of-source_unread : (insn : Insn) (dst a b : ℕ) → IgnoresSource insn → jumps_of insn dst a ≡ jumps_of insn dst b
unfolding jumps_of
jumps_of-source_unread (Binary _ _ _ (Immediate _)) dst a b unread = refl
jumps_of-source_unread (Division _ _ _ _ (Immediate _)) dst a b unread = refl
jumps_of-source_unread (Negate _ _) dst a b unread = refl
jumps_of-source_unread (Move _ _ (Immediate _)) dst a b unread = refl
jumps_of-source_unread (Reorder _ _ _) dst a b unread = refl
jumps_of-source_unread (Branch _ _ _ (Immediate _) _) dst a b unread = refl
jumps_of-source_unread _ dst a b unread = absurd unread

-- full-width copies, and tests against zero

pub value_of-copy : (dst src : Reg) (a b : ℕ) → b < 2 ^ 64 → value_of (Move W64 dst (Register src)) a b ≡ b
unfolding value_of
value_of-copy dst src a b small = omega arith

pub jumps_of-equal_zero : (dst : Reg) (distance : ℤ) (a b : ℕ) → a < 2 ^ 64 → jumps_of (Branch W64 Equal dst (Immediate (pos 0)) distance) a b ≡ eqb a 0
unfolding jumps_of condition_holds wrapped
jumps_of-equal_zero dst distance a b small = let low : a % 2 ^ 64 ≡ a = omega arith in rw low

pub jumps_of-not_equal_zero : (dst : Reg) (distance : ℤ) (a b : ℕ) → a < 2 ^ 64 → jumps_of (Branch W64 NotEqual dst (Immediate (pos 0)) distance) a b ≡ not (eqb a 0)
unfolding jumps_of condition_holds wrapped
jumps_of-not_equal_zero dst distance a b small = let low : a % 2 ^ 64 ≡ a = omega arith in rw low

-- signed readings

-- reading a 64-bit number as signed is a cast to `i64`
pub signed_of-cast : (n : ℕ) → n < 2 ^ 64 → signed_of 64 n ≡ cast_signed w64 n
signed_of-cast n small = sym (signed.signed_of-cast_64 n small)

pub signed_of-fits : (n : ℕ) → n < 2 ^ 64 → mag (signed_of 64 n) < 2 ^ 63
signed_of-fits n small = signed.signed_of-small W64 n small

-- a number that fits a signed 64-bit integer is read back unchanged
pub signed_of-wrapped : (z : ℤ) → mag z < 2 ^ 63 → signed_of 64 (wrapped 64 z) ≡ z
unfolding wrapped signed_of
signed_of-wrapped (pos n) small = grind (arith, nat_tests, ints)
signed_of-wrapped (negsuc n) small = grind (arith, nat_tests, ints)
