use Rattle.rb_command_line.proofs.ParsedCommands.{streamed}
use Rattle.rb_command_line.proofs.stream_command.measured_stream.Goals as goal

pub returns-in-Ok-clause-streamed : goal.returns-in-Ok-clause-streamed
returns-in-Ok-clause-streamed g c = λ zero.
    streamed c.args.options.now _ c.stream-answer.result c.write_whole-printed.result _ c.new-counters.result.items c.stream-answer.new.printed.items c.as_slice.result.now c.in-Ok.is c.stream-answer.ensures.allowed
    c.stream-answer.ensures.streamed c.new-counters.ensures.items (c.status_of.ensures.printed zero) c.write_whole-printed.ensures.whole c.as_slice.ensures.value
