use Rattle.std.proofs.Common.{◌≡◌, ◌++◌, drop, map}
use Rattle.rb_run_commands.specs.Printed.{objects_from, run_objects}
use Rattle.rb_run_commands.proofs.record_json.objects_of_run.Given as goal

-- the output, followed by the objects of the remaining rings, is the whole output
abbrev pub invariant-loop-ring : goal.invariant-loop-ring
invariant-loop-ring l =
    l.lines.items ++ objects_from l.ring (map (λ records. records.items) (drop l.ring l.rings)) ≡ run_objects l.fn.value (map (λ records. records.items) l.rings)
