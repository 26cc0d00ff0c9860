use Rattle.rb_run_commands.proofs.Printing.{records_written}
use Rattle.rb_run_commands.proofs.report_lines.push_records.Goals as goal

pub returns : goal.returns
returns c = record { records = records_written _ _ _ c.args.counts c.writeln.ensures.bytes }
