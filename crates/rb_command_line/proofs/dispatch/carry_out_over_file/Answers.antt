use Rattle.rb_command_line.proofs.dispatch.carry_out_over_file.Goals as goal

pub returns-in-Ok-clause-carried_out : goal.returns-in-Ok-clause-carried_out
returns-in-Ok-clause-carried_out g c = λ zero. (_, c.carry_out.ensures.carried_out zero)
