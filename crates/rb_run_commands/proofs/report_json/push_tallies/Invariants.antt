use Rattle.std.proofs.Common.{◌≡◌, ◌++◌, drop}
use Rattle.rb_run_commands.specs.ReportLines.{tally_objects_from}
use Rattle.rb_run_commands.proofs.report_json.push_tallies.Given as goal

-- the output, followed by the objects of the remaining workers, is the whole output
abbrev pub invariant-loop-worker : goal.invariant-loop-worker
invariant-loop-worker l =
    l.lines.items ++ tally_objects_from l.ring l.worker (drop l.worker l.tallies) ≡ l.fn.lines.items ++ tally_objects_from l.ring 0 l.tallies
