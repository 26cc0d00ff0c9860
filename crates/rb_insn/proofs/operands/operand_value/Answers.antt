use Rattle.std.proofs.Common.{arith}
use Rattle.std.proofs.lemmas.Int.{to_z-of_z}
use Rattle.rb_insn.proofs.Signed.{wrapped-cast_64}
use Rattle.rb_insn.proofs.operands.operand_value.Goals as goal

pub returns-in-Immediate : goal.returns-in-Immediate
returns-in-Immediate c = grind (arith, to_z-of_z, wrapped-cast_64)
