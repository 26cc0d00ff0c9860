use Rattle.std.proofs.Common.{◌≡◌, ◌++◌, string_bytes, take}
use Rattle.rb_run_commands.specs.Printed.{ring_lines}
use Rattle.rb_run_commands.proofs.record_lines.push_ring.Given as goal

abbrev pub invariant-loop-taken : goal.invariant-loop-taken
invariant-loop-taken l = string_bytes l.text ≡ string_bytes l.fn.text ++ ring_lines l.ring (take l.taken-index l.records)
