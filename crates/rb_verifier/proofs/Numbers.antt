-- The numbers in the code and those in the definitions agree.
use Rattle.std.proofs.Common.{◌≡◌, ℕ, ◌+◌, ◌^◌, ◌<◌, ◌≤◌, Bool, true, false, refl, sym, ◌∙◌, ap, arith, eqb-true}
use Rattle.std.specs.Prelude.{Option, Some, None, Result, Ok, Err, MatchOption, if◌then◌else◌, ℤ, pos, negsuc, ◌-ℤ◌, ◌+ℤ◌, ◌≤ℤ◌, ◌==◌, ◌/◌, ◌%◌, ◌&&◌, int_le, nat_le, nat_abs, FitsSigned}
use Rattle.std.specs.Option.{SomeIff}
use Rattle.rb_verifier.specs.AbstractArithmetic.{is_near, check_near}
use Rattle.rb_verifier.specs.Extents.{contains_range, stack_extent}
use Rattle.rb_verifier.specs.StackPlaces.{natural, stack_byte, place_from, whole_place}
use Rattle.rb_verifier.specs.inner.StackReach.{IsPlaceOrNone}
use Rattle.rb_verifier.specs.declared.rule.Rule.{Rule}
use Rattle.rb_verifier.specs.declared.rule.Rule.TheVariants as rule
use Rattle.std.specs.Int.{cast_signed, cast_unsigned}
use Rattle.std.proofs.lemmas.Int.{ints, to_z-of_z}
use Rattle.std.proofs.lemmas.Bool.Decides.{nat_tests}
use mir.Syntax.{w32, w64}
use mir.Val.{SFits}
use Rattle.rb_insn.specs.WholeNumbers.{wrapped}

-- an immediate, sign-extended to 64 bits
pub wrapped-immediate : (k : ℤ) → SFits w32 k → cast_unsigned w64 k ≡ wrapped 64 k
unfolding wrapped
wrapped-immediate (pos n) fits = let small : n < 2 ^ 31 = fits.sfits in omega arith
wrapped-immediate (negsuc n) fits = let small : n < 2 ^ 31 = fits.sfits in omega arith

-- the distance from an offset to an end after it fits 64 bits
gap_fits : (end from : ℤ) → negsuc 511 ≤ℤ from → from ≤ℤ end → end ≤ℤ pos (2 ^ 32) → FitsSigned w64 (end -ℤ from)
gap_fits end from low between high = record { sfits = grind (arith, ints) }

pub cast-gap : (end from : ℤ) → FitsSigned w64 end → FitsSigned w64 from → negsuc 511 ≤ℤ from → from ≤ℤ end → end ≤ℤ pos (2 ^ 32) → cast_signed w64 (cast_unsigned w64 (cast_signed w64 (cast_unsigned w64 end) -ℤ cast_signed w64 (cast_unsigned w64 from))) ≡ end -ℤ from
cast-gap end from f g low between high =
    rw (to_z-of_z w64 end f, to_z-of_z w64 from g) (to_z-of_z w64 (end -ℤ from) (gap_fits end from low between high))

-- a range that begins in an extent lies in it if the extent has at least that many more bytes
pub contains-from : (first end from : ℤ) (len : ℕ) → first ≤ℤ from → from ≤ℤ end → nat_le len (nat_abs (end -ℤ from)) ≡ (int_le first from && int_le (from +ℤ pos len) end)
contains-from first end from len h k = grind (arith, ints, nat_tests)

-- an offset within the bounds fits in 64 bits
fits_near : (z : ℤ) → is_near z ≡ true → FitsSigned w64 z
fits_near z e = grind (arith, ints, nat_tests)

far : (z : ℤ) → (FitsSigned w64 z → ⊥) → check_near z ≡ Err rule.PointerArithmetic
far z outside = decided (is_near z) refl
  where
    decided : (b : Bool) → is_near z ≡ b → (if b then Ok z else Err rule.PointerArithmetic) ≡ Err rule.PointerArithmetic
    decided true e = absurd (outside (fits_near z e))
    decided false e = refl

-- a checked sum, tested against the bounds
pub near_checked : (o : Option ℤ) (z : ℤ) (r : Result ℤ Rule) → SomeIff o (FitsSigned w64 z) z → MatchOption o (r ≡ Err rule.PointerArithmetic) (λ offset. r ≡ check_near offset) → r ≡ check_near z
near_checked None z r h k = k ∙ sym (far z h)
near_checked (Some x) z r h k = k ∙ ap check_near h.1

-- a range that lies on the stack begins at one of its bytes or at its end
pub on_stack : (z : ℤ) (len : ℕ) → contains_range stack_extent z len ≡ true → (negsuc 511 ≤ℤ z) × ((z +ℤ pos len) ≤ℤ pos 0)
on_stack z len h = (grind (arith, ints, nat_tests), grind (arith, ints, nat_tests))

pub byte_on_stack : (z : ℤ) (len : ℕ) → contains_range stack_extent z len ≡ true → (stack_byte z ≡ Some (nat_abs (z +ℤ pos 512))) × (nat_abs (z +ℤ pos 512) + len ≤ 512)
byte_on_stack z len h = of_sum (z +ℤ pos 512) refl
  where
    of_sum : (y : ℤ) → z +ℤ pos 512 ≡ y → (natural y ≡ Some (nat_abs y)) × (nat_abs y + len ≤ 512)
    of_sum (pos n) e = (refl, grind (arith, ints, nat_tests))
    of_sum (negsuc n) e = absurd (grind (arith, ints, nat_tests))

-- a place that has exactly a range of bytes of the stack is one of the 64
pub whole_inside : (at len : ℕ) → at + len ≤ 512 → IsPlaceOrNone (whole_place at len)
whole_inside at len h = of_length (len == 8) refl
  where
    of_rest : (b : Bool) → len ≡ 8 → IsPlaceOrNone (if b then Some (at / 8) else None)
    of_rest true e = omega arith
    of_rest false e = tt

    of_length : (b : Bool) → (len == 8) ≡ b → IsPlaceOrNone (if b then place_from at else None)
    of_length true e = of_rest (at % 8 == 0) (eqb-true len 8 e)
    of_length false e = tt
