use Rattle.std.proofs.Common.{arith}
use Rattle.std.proofs.lemmas.Int.{to_z-of_z}
use Rattle.rb_insn.specs.ArithmeticAndJumps.{sign_extended}
use Rattle.rb_insn.proofs.Signed.{signed_of-cast_8, signed_of-cast_16, wrapped-cast_32}
use Rattle.rb_insn.proofs.arithmetic.extended_to_32.Goals as goal
use Rattle.rb_insn.proofs.arithmetic.extended_to_32.Goals.{in-From8, in-From16}

pub returns : goal.returns
unfolding sign_extended
returns c = elim c.match-from.branch [ in-From8 w ↦ grind (arith, to_z-of_z, wrapped-cast_32, signed_of-cast_8) | in-From16 w ↦ grind (arith, to_z-of_z, wrapped-cast_32, signed_of-cast_16) ]
