use Rattle.std.proofs.Common.{◌≡◌, ap, sym, ◌∙◌, subst, arith}
use Rattle.std.specs.Prelude.{ℤ, ◌+ℤ◌, ◌-ℤ◌, FitsSigned}
use Rattle.std.specs.Option.{SomeIff}
use Rattle.std.specs.Int.{cast_signed, cast_unsigned}
use Rattle.std.proofs.lemmas.Int.{ints}
use mir.Syntax.{w64}
use Rattle.rb_insn.specs.WholeNumbers.{signed_of}
use Rattle.rb_verifier.specs.AbstractArithmetic.{moved_offset, check_near}
use Rattle.rb_insn.proofs.ArithmeticLaws.{signed_of-cast}
use Rattle.rb_verifier.proofs.Numbers.{near_checked}
use Rattle.rb_verifier.proofs.arithmetic.moved_offset.Goals as goal

pub returns-in-Forward : goal.returns-in-Forward
returns-in-Forward c =
    let signed : c.cast_signed-by.result ≡ signed_of 64 c.args.by = c.cast_signed-by.ensures ∙ sym (signed_of-cast c.args.by c.ranges.by.fits) in
    let to : ℤ = c.args.offset +ℤ signed_of 64 c.args.by in
    let sum : cast_signed w64 (cast_unsigned w64 c.args.offset) +ℤ cast_signed w64 (cast_unsigned w64 c.cast_signed-by.result) ≡ to = omega (arith, ints) in
    near_checked c.checked_add.result to c.check_near.result (subst (λ z. SomeIff c.checked_add.result (FitsSigned w64 z) z) sum c.checked_add.ensures) c.check_near.ensures
    ∙ ap check_near (sym (ap (λ d. moved_offset d c.args.offset c.args.by) c.in-Forward.is))

pub returns-in-Back : goal.returns-in-Back
returns-in-Back c =
    let signed : c.cast_signed-by.result ≡ signed_of 64 c.args.by = c.cast_signed-by.ensures ∙ sym (signed_of-cast c.args.by c.ranges.by.fits) in
    let to : ℤ = c.args.offset -ℤ signed_of 64 c.args.by in
    let difference : cast_signed w64 (cast_unsigned w64 c.args.offset) -ℤ cast_signed w64 (cast_unsigned w64 c.cast_signed-by.result) ≡ to = omega (arith, ints) in
    near_checked c.checked_sub.result to c.check_near-in-Back.result (subst (λ z. SomeIff c.checked_sub.result (FitsSigned w64 z) z) difference c.checked_sub.ensures) c.check_near-in-Back.ensures
    ∙ ap check_near (sym (ap (λ d. moved_offset d c.args.offset c.args.by) c.in-Back.is))
