use Rattle.std.proofs.Common.{◌≡◌, ap, sym, ◌∙◌, arith, rules}
use Rattle.std.specs.Prelude.{FitsSigned}
use Rattle.std.specs.Int.{cast_unsigned}
use Rattle.std.proofs.lemmas.Int.{ints}
use mir.Syntax.{w32, w64}
use Rattle.rb_verifier.specs.AbstractArithmetic.{operand_value}
use Rattle.rb_verifier.specs.declared.value.Abs.TheVariants.{Known}
use Rattle.rb_verifier.proofs.Numbers.{wrapped-immediate}
use Rattle.rb_verifier.proofs.arithmetic.operand_value.Goals as goal

pub returns-in-Immediate : goal.returns-in-Immediate
returns-in-Immediate c =
    let fits : FitsSigned w32 c.in-Immediate.k = search rules in
    let value : c.cast_unsigned.result ≡ cast_unsigned w64 c.in-Immediate.k = omega (arith, ints) in
    ap Known (value ∙ wrapped-immediate c.in-Immediate.k fits) ∙ sym (ap (λ o. operand_value o c.args.state.now) c.in-Immediate.is)
