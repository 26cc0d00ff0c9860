use Rattle.std.proofs.Common.{◌≡◌}
use Rattle.std.specs.Prelude.{string_bytes}
use Rattle.rb_verifier.specs.Annotation.{state_at}
use Rattle.rb_explain.specs.Joined.{joined_below}
use Rattle.rb_explain.specs.Explanations.{known_line}
use Rattle.rb_explain.proofs.listing.listing_of.Given as goal

abbrev pub invariant-loop-unit : goal.invariant-loop-unit
invariant-loop-unit l = string_bytes l.text ≡ joined_below (known_line l.form l.program (state_at l.states)) l.unit
