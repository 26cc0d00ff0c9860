use Rattle.std.proofs.Common.{◌≡◌, ◌++◌, string_bytes, drop}
use Rattle.rb_service.specs.Counters.{programs_lines_from}
use Rattle.rb_service.proofs.counters.push_programs.Given as goal

-- what is written, followed by the remaining lines, is the whole
abbrev pub invariant-loop-program : goal.invariant-loop-program
invariant-loop-program l =
    string_bytes l.text ++ programs_lines_from l.program (drop l.program l.results) ≡ string_bytes l.fn.text ++ programs_lines_from 0 l.results
