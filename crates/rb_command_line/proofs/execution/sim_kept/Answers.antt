use Rattle.rb_command_line.proofs.SingleCommands.{sim_of_read}
use Rattle.rb_command_line.proofs.execution.sim_kept.Goals as goal

pub returns : goal.returns
returns g c = record {
  printed = sim_of_read c.args.draw c.args.form (g.R.Read.remaining c.args.input.now) _ _ c.in-Ok.script.items c.as_slice-text.result.now c.sim-answer.result c.in-Ok.ensures.bytes c.as_slice-text.ensures.value
      c.sim-answer.ensures.printed;
}
