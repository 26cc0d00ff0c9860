use Rattle.std.proofs.Common.{arith}
use Rattle.std.proofs.lemmas.Int.{to_z-of_z}
use Rattle.rb_insn.specs.ArithmeticAndJumps.{division_of}
use Rattle.rb_insn.specs.WholeNumbers.{signed_division}
use Rattle.rb_insn.proofs.Signed.{wrapped-div, wrapped-rem, signed_of-zero}
use Rattle.rb_insn.proofs.arithmetic.division.Goals as goal

pub wrapping_div-quotient-requires : goal.wrapping_div-quotient-requires
wrapping_div-quotient-requires c = grind (arith, to_z-of_z, signed_of-zero c.args.width c.args.b c.requires.second)

pub wrapping_rem-remainder-requires : goal.wrapping_rem-remainder-requires
wrapping_rem-remainder-requires c = grind (arith, to_z-of_z, signed_of-zero c.args.width c.args.b c.requires.second)

pub returns-in-Signed-Div : goal.returns-in-Signed-Div
unfolding division_of signed_division
returns-in-Signed-Div c = grind (arith, to_z-of_z, wrapped-div c.args.width c.signed.result c.signed-in-Signed-Div.result (omega arith))

pub returns-in-Signed-Mod : goal.returns-in-Signed-Mod
unfolding division_of signed_division
returns-in-Signed-Mod c = grind (arith, to_z-of_z, wrapped-rem c.args.width c.signed-in-Signed-Mod.result c.signed-in-Signed-Mod-2.result (omega arith))
