use Rattle.rb_service.proofs.Printing.{appended_on_ok}
use Rattle.rb_service.proofs.report.report_on.Goals as goal

pub returns-clause-counted : goal.returns-clause-counted
returns-clause-counted g c = appended_on_ok c.end_outputs.result c.args.printed.now.items c.print_counters.new.printed.items _ c.in_ok-print_counters.ensures.counted
