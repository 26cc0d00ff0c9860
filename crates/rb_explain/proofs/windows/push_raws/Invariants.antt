use Rattle.std.proofs.Common.{◌≡◌, ◌+◌, ◌++◌}
use Rattle.std.specs.Prelude.{string_bytes}
use Rattle.rb_explain.specs.Joined.{joined_below}
use Rattle.rb_explain.specs.Explanations.{raw_line}
use Rattle.rb_explain.proofs.windows.push_raws.Given as goal

abbrev pub invariant-loop-k : goal.invariant-loop-k
invariant-loop-k l = string_bytes l.text ≡ string_bytes l.fn.text ++ joined_below (λ k. raw_line l.form l.bytes l.at (l.at + k)) l.k
