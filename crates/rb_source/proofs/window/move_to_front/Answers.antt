use Rattle.std.proofs.Common.{◌-◌, take, ap, ◌∙◌}
use Rattle.rb_source.proofs.Windows.{moved_front}
use Rattle.rb_source.proofs.window.move_to_front.Goals as goal

pub returns-clause-moved : goal.returns-clause-moved
returns-clause-moved c = ap (take (c.args.end - c.args.at)) c.copy_within.ensures.items ∙ moved_front c.args.room.now.items c.args.at c.args.end c.requires.order c.requires.inside
