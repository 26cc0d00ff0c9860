use Rattle.std.proofs.Common.{arith}
use Rattle.rb_insn.specs.ArithmeticAndJumps.{value_of}
use Rattle.rb_insn.proofs.Signed.{wrapped-neg}
use Rattle.rb_insn.proofs.arithmetic.value.Goals as goal

pub returns-in-Negate-clause-value : goal.returns-in-Negate-clause-value
unfolding value_of
returns-in-Negate-clause-value c = cc (wrapped-neg c.in-Negate.width c.args.dst c.wrapping_neg.result (omega arith) (omega arith) c.wrapping_neg.ensures)

pub returns-in-Negate-clause-source_unread : goal.returns-in-Negate-clause-source_unread
unfolding value_of
returns-in-Negate-clause-source_unread c ignored other = cc (wrapped-neg c.in-Negate.width c.args.dst c.wrapping_neg.result (omega arith) (omega arith) c.wrapping_neg.ensures)
