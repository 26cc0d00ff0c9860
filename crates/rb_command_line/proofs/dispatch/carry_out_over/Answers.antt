use Rattle.rb_command_line.proofs.ParsedCommands.{over_file, over_input}
use Rattle.rb_command_line.proofs.dispatch.carry_out_over.Goals as goal

pub returns-in-None-clause-carried_out : goal.returns-in-None-clause-carried_out
returns-in-None-clause-carried_out g c = λ zero. over_input g.row.F.Denot g.F.Write.contents c.args.asked.now _ _ _ _ _ (c.carry_out.ensures.carried_out zero)

pub returns-in-Some-clause-carried_out : goal.returns-in-Some-clause-carried_out
returns-in-Some-clause-carried_out g c = λ zero. over_file g.row.F.Denot g.F.Write.contents c.args.asked.now _ _ _ _ _ c.args.asked.now.file _ (λ none. none) c.in-Some.is (c.carry_out_over_file.ensures.carried_out zero)
