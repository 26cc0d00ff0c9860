use Rattle.std.proofs.Common.{None, Some, refl}
use Rattle.rb_command_line.proofs.CommandEndings.{ending_as}
use Rattle.rb_command_line.proofs.dispatch.print_ending.Goals as goal

pub returns-in-None-clause-told : goal.returns-in-None-clause-told
returns-in-None-clause-told g c = λ zero. ending_as c.args.form c.args.ending None _ _ c.in-None.is refl

pub returns-in-Some-clause-told : goal.returns-in-Some-clause-told
returns-in-Some-clause-told g c = λ zero. ending_as c.args.form c.args.ending (Some c.in-Some.end) _ _ c.in-Some.is (c.print_end.ensures.told zero)
