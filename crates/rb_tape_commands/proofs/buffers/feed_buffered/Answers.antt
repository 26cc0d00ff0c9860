use Rattle.std.proofs.Common.{refl}
use Rattle.rb_tape_commands.proofs.Buffering.{nothing_fed}
use Rattle.rb_tape_commands.proofs.buffers.feed_buffered.Goals as goal

pub returns-in_default-clause-fed : goal.returns-in_default-clause-fed
returns-in_default-clause-fed g c = λ other. nothing_fed c.args.size c.args.start _ _ _ refl
