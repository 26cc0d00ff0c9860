use Rattle.std.proofs.Common.{◌<◌, ◌-◌, ℕ}
use Rattle.rb_verifier.specs.AbstractValues.{BelowValue}
use Rattle.rb_verifier.specs.KeptPointers.{known_in}
use Rattle.rb_verifier.proofs.places.Places.are_below.Given as goal

abbrev pub invariant-loop-i : goal.invariant-loop-i
invariant-loop-i l = (j : ℕ) → j < l.i → BelowValue (known_in l.self (63 - j)) (known_in l.upper (63 - j))
