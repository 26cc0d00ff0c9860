use Rattle.std.proofs.Common.{◌≡◌, ◌<◌, ◌-◌, ℕ, length, get_or}
use Rattle.rb_verifier.specs.declared.value.Abs.TheVariants.{Number}
use Rattle.rb_verifier.specs.KeptPointers.{IsPlaceValue, known_in}
use Rattle.rb_verifier.specs.inner.ValueJoins.{IsJoinValue}
use Rattle.rb_verifier.proofs.places.Places.joined.Given as goal

abbrev pub invariant-loop-i : goal.invariant-loop-i
invariant-loop-i l = record {
  count : length l.items.items ≡ l.i;
  built : (j : ℕ) → j < l.i → IsJoinValue (known_in l.self (63 - j)) (known_in l.other (63 - j)) (get_or l.items.items j Number);
  values : (j : ℕ) → j < l.i → IsPlaceValue (get_or l.items.items j Number);
}
