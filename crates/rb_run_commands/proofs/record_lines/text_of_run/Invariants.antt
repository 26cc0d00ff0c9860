use Rattle.std.proofs.Common.{◌≡◌, ◌++◌, string_bytes, drop, map}
use Rattle.rb_run_commands.specs.Printed.{lines_from, run_text}
use Rattle.rb_run_commands.proofs.record_lines.text_of_run.Given as goal

-- the output, followed by the lines of the remaining rings, is the whole text
abbrev pub invariant-loop-ring : goal.invariant-loop-ring
invariant-loop-ring l =
    string_bytes l.text ++ lines_from l.ring (map (λ records. records.items) (drop l.ring l.rings)) ≡ run_text l.fn.value (map (λ records. records.items) l.rings)
