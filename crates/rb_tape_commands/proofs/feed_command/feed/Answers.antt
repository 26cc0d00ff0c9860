use Rattle.rb_tape_commands.proofs.Answering.{opening_fed, only_known, tells}
use Rattle.rb_tape_commands.proofs.feed_command.feed.Goals as goal

pub returns-in-Ok-clause-answer : goal.returns-in-Ok-clause-answer
returns-in-Ok-clause-answer g c = tells c.args.size c.args.start _ _ _ _ c.feed_ring.result.0 c.feed_ring.ensures.no_bounds c.feed_ring.ensures.fed

pub returns-in-Ok-clause-only_answer : goal.returns-in-Ok-clause-only_answer
returns-in-Ok-clause-only_answer g c = only_known c.args.size c.args.start _ _ _ _ c.feed_ring.result.0 c.feed_ring.ensures.no_bounds c.feed_ring.ensures.fed

pub returns-in-Err-clause-fed : goal.returns-in-Err-clause-fed
returns-in-Err-clause-fed g c = opening_fed c.args.size c.args.start _ _ c.in-Err.fault c.in-Err.ensures.memory
