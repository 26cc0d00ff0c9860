use Rattle.std.proofs.Common.{arith}
use Rattle.rb_insn.proofs.Registers.{reg-by_number}
use Rattle.rb_program.specs.inner.FieldChecks.{reg_at}
use Rattle.rb_program.proofs.checks.register.Goals as goal

pub returns : goal.returns
unfolding reg_at
returns c = reg-by_number _ _ (omega arith)
