use Rattle.std.proofs.Common.{◌≡◌, sym, ap, ◌∙◌}
use Rattle.std.specs.Int.{cast_signed, cast_unsigned}
use Rattle.std.proofs.lemmas.Int.{to_z-of_z}
use mir.Syntax.{w64}
use Rattle.rb_insn.specs.WholeNumbers.{signed_of}
use Rattle.rb_insn.proofs.ArithmeticLaws.{signed_of-cast, signed_of-fits}
use Rattle.rb_interp.proofs.offsets.signed.Goals as goal

pub returns : goal.returns
returns c =
    let small = c.ranges.number.fits in
    let value : c.cast_signed.result ≡ signed_of 64 c.args.number = c.cast_signed.ensures ∙ sym (signed_of-cast c.args.number small) in
    ap (λ z. cast_signed w64 (cast_unsigned w64 z)) value ∙ to_z-of_z w64 (signed_of 64 c.args.number) (record { sfits = signed_of-fits c.args.number small })
