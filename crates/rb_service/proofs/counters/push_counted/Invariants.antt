use Rattle.std.proofs.Common.{◌≡◌, ◌++◌, string_bytes, drop}
use Rattle.rb_service.specs.Counters.{result_lines_from}
use Rattle.rb_service.proofs.counters.push_counted.Given as goal

-- what is written, followed by the remaining lines, is the whole
abbrev pub invariant-loop-value : goal.invariant-loop-value
invariant-loop-value l =
    string_bytes l.text ++ result_lines_from l.program l.value (drop l.value l.below) ≡ string_bytes l.fn.text ++ result_lines_from l.program 0 l.below
