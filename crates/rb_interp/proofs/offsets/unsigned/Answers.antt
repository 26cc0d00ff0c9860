use Rattle.std.proofs.Common.{◌≡◌, ap, ◌∙◌, arith}
use Rattle.std.specs.Int.{cast_unsigned}
use Rattle.std.proofs.lemmas.Int.{ints}
use mir.Syntax.{w64}
use Rattle.rb_insn.specs.WholeNumbers.{signed_of, wrapped}
use Rattle.rb_insn.proofs.ArithmeticLaws.{signed_of-wrapped}
use Rattle.rb_interp.proofs.Nearness.{wrapped-unsigned}
use Rattle.rb_interp.proofs.offsets.unsigned.Goals as goal

pub returns : goal.returns
returns c =
    let cast : c.cast_unsigned.result ≡ cast_unsigned w64 c.args.number = omega (arith, ints) in
    let value : c.cast_unsigned.result ≡ wrapped 64 c.args.number = cast ∙ wrapped-unsigned c.args.number c.ranges.number in
    record { value = value; back = ap (signed_of 64) value ∙ signed_of-wrapped c.args.number c.ranges.number.sfits }
