use Rattle.std.proofs.Common.{◌≡◌, ◌++◌}
use Rattle.std.specs.Prelude.{string_bytes}
use Rattle.rb_explain.specs.Joined.{joined_below}
use Rattle.rb_explain.specs.StateTexts.{place_in}
use Rattle.rb_explain.proofs.state_lines.push_places.Given as goal

abbrev pub invariant-loop-behind : goal.invariant-loop-behind
invariant-loop-behind l = string_bytes l.text ≡ string_bytes l.fn.text ++ joined_below (place_in l.state) l.behind
