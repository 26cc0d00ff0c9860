use Rattle.rb_command_line.proofs.CommandEndings.{carried_out}
use Rattle.rb_command_line.proofs.dispatch.carry_out.Goals as goal

pub returns-in-Ok-clause-carried_out : goal.returns-in-Ok-clause-carried_out
returns-in-Ok-clause-carried_out g c = λ zero.
    carried_out _ _ _ g.row.F.Denot g.F.Write.contents c.args.asked.now.request c.in-Ok.ending c.form.result _ _ _ c.form.ensures.form c.in-Ok.ensures.carried_out (c.print_ending.ensures.told zero)
