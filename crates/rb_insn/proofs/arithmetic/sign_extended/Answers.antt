use Rattle.std.proofs.Common.{arith}
use Rattle.std.proofs.lemmas.Int.{to_z-of_z}
use Rattle.rb_insn.specs.ArithmeticAndJumps.{sign_extended}
use Rattle.rb_insn.proofs.Signed.{signed_of-cast_8, signed_of-cast_16, signed_of-cast_32, wrapped-cast_64}
use Rattle.rb_insn.proofs.arithmetic.sign_extended.Goals as goal
use Rattle.rb_insn.proofs.arithmetic.sign_extended.Goals.{in-From8, in-From16, in-From32}

pub returns : goal.returns
unfolding sign_extended
returns c = elim c.match-from.branch [ in-From8 w ↦ grind (arith, to_z-of_z, wrapped-cast_64, signed_of-cast_8) | in-From16 w ↦ grind (arith, to_z-of_z, wrapped-cast_64, signed_of-cast_16) | in-From32 w ↦ grind (arith, to_z-of_z, wrapped-cast_64, signed_of-cast_32) ]
