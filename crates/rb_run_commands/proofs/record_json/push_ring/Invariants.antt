use Rattle.std.proofs.Common.{◌≡◌, ◌++◌, take}
use Rattle.rb_run_commands.specs.Printed.{ring_objects}
use Rattle.rb_run_commands.proofs.record_json.push_ring.Given as goal

abbrev pub invariant-loop-taken : goal.invariant-loop-taken
invariant-loop-taken l = l.lines.items ≡ l.fn.lines.items ++ ring_objects l.ring (take l.taken-index l.records)
