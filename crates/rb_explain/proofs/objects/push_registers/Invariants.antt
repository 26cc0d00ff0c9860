use Rattle.std.proofs.Common.{◌≡◌, ◌++◌}
use Rattle.std.specs.Prelude.{string_bytes}
use Rattle.rb_explain.specs.Joined.{joined_below}
use Rattle.rb_explain.specs.Objects.{register_field}
use Rattle.rb_explain.proofs.objects.push_registers.Given as goal

abbrev pub invariant-loop-register : goal.invariant-loop-register
invariant-loop-register l = string_bytes l.text ≡ string_bytes l.fn.text ++ joined_below (register_field l.state) l.register
