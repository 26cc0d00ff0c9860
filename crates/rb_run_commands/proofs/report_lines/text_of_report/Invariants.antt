use Rattle.std.proofs.Common.{◌≡◌, string_bytes, take}
use Rattle.std.specs.List.{flat_map}
use Rattle.rb_run_commands.specs.ReportLines.{closing_lines}
use Rattle.rb_run_commands.proofs.report_lines.text_of_report.Given as goal

abbrev pub invariant-loop-ended : goal.invariant-loop-ended
invariant-loop-ended g l = string_bytes l.text ≡ flat_map closing_lines (take l.ended-index l.report.rings.items)
