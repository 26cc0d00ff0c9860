use Rattle.std.proofs.Common.{◌≡◌, ◌++◌}
use Rattle.std.specs.Prelude.{string_bytes}
use Rattle.rb_explain.specs.Joined.{joined_below}
use Rattle.rb_explain.specs.Explanations.{near_line}
use Rattle.rb_explain.proofs.windows.push_window.Given as goal

abbrev pub invariant-loop-unit : goal.invariant-loop-unit
invariant-loop-unit l = string_bytes l.text ≡ string_bytes l.fn.text ++ joined_below (near_line l.form l.program l.at) l.unit
