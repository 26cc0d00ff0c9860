use Rattle.std.proofs.Common.{◌≡◌, ◌++◌, string_bytes, drop}
use Rattle.rb_run_commands.specs.ReportLines.{tally_lines_from}
use Rattle.rb_run_commands.proofs.report_lines.push_tallies.Given as goal

-- the output, followed by the lines of the remaining workers, is the whole output
abbrev pub invariant-loop-worker : goal.invariant-loop-worker
invariant-loop-worker l =
    string_bytes l.text ++ tally_lines_from l.worker (drop l.worker l.tallies) ≡ string_bytes l.fn.text ++ tally_lines_from 0 l.tallies
