use Rattle.std.proofs.Common.{◌≡◌, ◌<◌, ◌-◌, ℕ, false}
use Rattle.std.specs.Prelude.{◌&&◌, not}
use Rattle.rb_verifier.specs.StackPlaces.{touches}
use Rattle.rb_verifier.specs.KeptPointers.{known_in, is_data}
use Rattle.rb_verifier.proofs.places.Places.may_keep.Given as goal

abbrev pub invariant-loop-i : goal.invariant-loop-i
invariant-loop-i l = (j : ℕ) → j < l.i → (touches l.at l.len (63 - j) && not (is_data (known_in l.self (63 - j)))) ≡ false
