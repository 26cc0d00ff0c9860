use Rattle.rb_command_line.proofs.SingleCommands.{fed_whole}
use Rattle.rb_command_line.proofs.execution.feed_metered.Goals as goal

pub returns-clause-fed : goal.returns-clause-fed
returns-clause-fed g c = fed_whole c.args.size c.args.start (g.R.Read.remaining c.args.input.now) (g.R.Read.remaining c.new-input.result.reader.now) _ _ c.feed_buffered.result (let same = c.new-input.ensures in cc) c.feed_buffered.ensures.fed
