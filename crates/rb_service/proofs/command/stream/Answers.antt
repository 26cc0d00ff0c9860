use Rattle.rb_service.proofs.Refusing.{later_right}
use Rattle.rb_service.proofs.command.stream.Goals as goal

pub returns-clause-refused : goal.returns-clause-refused
returns-clause-refused g c = later_right c.args.options.now _ c.in_ok-check_options.ensures.allowed c.stream_allowed.ensures.later
