use Rattle.std.proofs.Common.{arith}
use Rattle.std.proofs.lemmas.Int.{to_z-of_z}
use Rattle.rb_insn.proofs.Signed.{signed_of-cast_32, signed_of-cast_64}
use Rattle.rb_insn.proofs.operands.signed.Goals as goal

pub returns-in-W32 : goal.returns-in-W32
returns-in-W32 c = grind (arith, to_z-of_z, signed_of-cast_32)

pub returns-in-W64 : goal.returns-in-W64
returns-in-W64 c = grind (arith, to_z-of_z, signed_of-cast_64)
