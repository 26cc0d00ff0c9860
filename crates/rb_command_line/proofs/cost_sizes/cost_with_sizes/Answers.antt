use Rattle.std.proofs.Common.{None, Some}
use Rattle.rb_command_line.proofs.SingleCommands.{cost_as}
use Rattle.rb_command_line.proofs.cost_sizes.cost_with_sizes.Goals as goal

pub returns-in-None : goal.returns-in-None
returns-in-None g c = record { printed = cost_as c.args.bounds c.args.form c.args.sizes None _ _ _ c.cost.result c.in-None.is c.cost.ensures.printed }

pub returns-in-Some : goal.returns-in-Some
returns-in-Some g c = record { printed = cost_as c.args.bounds c.args.form c.args.sizes (Some c.in-Some.sizes) _ _ _ c.cost_for.result c.in-Some.is c.cost_for.ensures.printed }
