use Rattle.rb_service.proofs.Printing.{contexts_written}
use Rattle.rb_service.proofs.counters.push_contexts.Goals as goal

pub returns : goal.returns
returns c = record { line = contexts_written _ _ _ _ _ _ c.args.contexts c.writeln.ensures.bytes }
