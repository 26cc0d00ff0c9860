use Rattle.rb_command_line.proofs.ParsedCommands.{executes_command, executes_follow, executes_stream}
use Rattle.rb_command_line.proofs.dispatch.execute.Goals as goal

pub returns-in-Command-clause-carried_out : goal.returns-in-Command-clause-carried_out
returns-in-Command-clause-carried_out g c = λ zero. executes_command _ _ c.args.asked.now _ _ c.in-Command.is (c.carry_out_over.ensures.carried_out zero)

pub returns-in-Stream-clause-carried_out : goal.returns-in-Stream-clause-carried_out
returns-in-Stream-clause-carried_out g c = λ zero. executes_stream _ _ c.args.asked.now _ _ c.in-Stream.is (c.carry_out_stream.ensures.streamed zero)

pub returns-in-Follow-clause-carried_out : goal.returns-in-Follow-clause-carried_out
returns-in-Follow-clause-carried_out g c = λ zero. executes_follow _ _ c.args.asked.now _ _ c.in-Follow.is (c.carry_out_follow.ensures.printed zero)
