use Rattle.std.proofs.Common.{ap}
use Rattle.rb_tape_commands.proofs.Buffering.{fed_through, nothing_fed}
use Rattle.rb_tape_commands.proofs.buffers.feed_through.Goals as goal

pub returns-in-Err-clause-fed : goal.returns-in-Err-clause-fed
returns-in-Err-clause-fed g c = λ other. nothing_fed c.args.size c.args.start _ _ _ (ap g.W.Write.contents c.in-Err.ensures.given_back)

pub returns-clause-fed : goal.returns-clause-fed
returns-clause-fed g c = λ other.
    fed_through g.W.Write.contents c.in-Ok.writer c.feed-answer.result.1 c.args.out c.into_writer.result c.in-Ok.ensures.writer c.in-Ok.ensures.empty c.into_writer.ensures
    (c.feed-answer.ensures.handed_on c.in-Ok.ensures.empty other) c.args.size c.args.start _ _ c.feed-answer.result.0 c.feed-answer.ensures.fed
