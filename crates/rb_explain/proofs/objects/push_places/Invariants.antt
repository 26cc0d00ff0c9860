use Rattle.std.proofs.Common.{◌≡◌, ◌++◌}
use Rattle.std.specs.Prelude.{string_bytes}
use Rattle.rb_explain.specs.Joined.{joined_below}
use Rattle.rb_explain.specs.Objects.{place_field}
use Rattle.rb_explain.proofs.objects.push_places.Given as goal

abbrev pub invariant-loop-behind : goal.invariant-loop-behind
invariant-loop-behind l = string_bytes l.text ≡ string_bytes l.fn.text ++ joined_below (place_field l.state) l.behind
