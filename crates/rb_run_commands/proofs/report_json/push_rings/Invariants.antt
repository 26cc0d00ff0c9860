use Rattle.std.proofs.Common.{◌≡◌, ◌++◌, drop}
use Rattle.rb_run_commands.specs.ReportLines.{closing_objects_from}
use Rattle.rb_run_commands.proofs.report_json.push_rings.Given as goal

-- the output, followed by the objects of the remaining rings, is the whole output
abbrev pub invariant-loop-ring : goal.invariant-loop-ring
invariant-loop-ring g l =
    l.lines.items ++ closing_objects_from l.ring (drop l.ring l.rings) ≡ l.fn.lines.items ++ closing_objects_from 0 l.rings
