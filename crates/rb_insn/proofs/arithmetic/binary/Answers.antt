use Rattle.std.proofs.Common.{arith}
use Rattle.std.proofs.lemmas.Int.{to_z-of_z}
use Rattle.rb_insn.specs.WholeNumbers.{binary_of}
use Rattle.rb_insn.proofs.Signed.{wrapped-difference, wrapped-shr}
use Rattle.rb_insn.proofs.arithmetic.binary.Goals as goal

pub returns-in-Sub : goal.returns-in-Sub
unfolding binary_of
returns-in-Sub c = cc (wrapped-difference c.args.width c.args.a c.args.b (omega arith) (omega arith))

pub returns-in-Arsh : goal.returns-in-Arsh
unfolding binary_of
returns-in-Arsh c =
    grind (arith, to_z-of_z, wrapped-shr c.args.width c.signed.result c.shift_count-in-Arsh.result (omega arith))
