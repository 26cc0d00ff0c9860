use Rattle.rb_run_commands.proofs.Printing.{counts_written}
use Rattle.rb_run_commands.proofs.report_lines.push_counts.Goals as goal

pub returns : goal.returns
returns c = record { line = counts_written _ _ _ _ c.args.counts c.in_ok-write.ensures.bytes c.push_records.ensures.records }
