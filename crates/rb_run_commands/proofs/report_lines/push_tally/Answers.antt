use Rattle.rb_run_commands.proofs.Printing.{tally_written}
use Rattle.rb_run_commands.proofs.report_lines.push_tally.Goals as goal

pub returns : goal.returns
returns c = record { line = tally_written _ _ _ _ _ c.writeln.ensures.bytes }
