use Rattle.rb_service.proofs.StreamReports.{printed_over_file, printed_over_input}
use Rattle.rb_service.proofs.command.stream_planned.Goals as goal

pub returns-in_default-clause-streamed : goal.returns-in_default-clause-streamed
returns-in_default-clause-streamed g c = printed_over_input c.stream_from.result c.args.options.now (g.R.Read.remaining c.args.input.now) c.args.printed.now.items c.stream_from.new.printed.items c.stream_from.ensures.streamed

pub returns-in-Ok-clause-streamed : goal.returns-in-Ok-clause-streamed
returns-in-Ok-clause-streamed g c =
    printed_over_file c.stream_from-in-Ok.result c.args.options.now c.in-Some.path _ (g.R.Read.remaining c.args.input.now) c.args.printed.now.items c.stream_from-in-Ok.new.printed.items c.in-Some.is c.stream_from-in-Ok.ensures.streamed
