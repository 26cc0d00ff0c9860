use Rattle.std.proofs.Common.{Some, ap}
use Rattle.rb_command_line.specs.declared.cost_sizes.SizesFor.{SizesFor}
use Rattle.rb_command_line.specs.declared.cost_sizes.SizesFor.TheVariants.{Jobs, Turns}
use Rattle.rb_command_line.proofs.SingleCommands.{cost_as}
use Rattle.rb_command_line.proofs.cost_sizes.cost_for.Goals as goal

pub returns-in-Jobs : goal.returns-in-Jobs
returns-in-Jobs g c = record {
  printed = cost_as c.args.bounds c.args.form (Some c.args.sizes) (Some (Jobs c.in-Jobs.jobs)) _ _ _ c.cost.result (ap (λ (s : SizesFor). Some s) c.in-Jobs.is) c.cost.ensures.printed;
}

pub returns-in-Turns : goal.returns-in-Turns
returns-in-Turns g c = record {
  printed = cost_as c.args.bounds c.args.form (Some c.args.sizes) (Some (Turns c.in-Turns.workers)) _ _ _ c.cost_with_turns.result (ap (λ (s : SizesFor). Some s) c.in-Turns.is) c.cost_with_turns.ensures.printed;
}
