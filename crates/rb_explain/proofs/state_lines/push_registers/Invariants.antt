use Rattle.std.proofs.Common.{◌≡◌, ◌++◌}
use Rattle.std.specs.Prelude.{string_bytes}
use Rattle.rb_explain.specs.Joined.{joined_below}
use Rattle.rb_explain.specs.StateTexts.{register_in}
use Rattle.rb_explain.proofs.state_lines.push_registers.Given as goal

abbrev pub invariant-loop-register : goal.invariant-loop-register
invariant-loop-register l = string_bytes l.text ≡ string_bytes l.fn.text ++ joined_below (register_in l.state) l.register
