use Rattle.std.proofs.Common.{◌≡◌, ◌<◌, ◌-◌, ℕ, length, get_or}
use Rattle.rb_verifier.specs.declared.value.Abs.TheVariants.{Number}
use Rattle.rb_verifier.specs.KeptPointers.{IsPlaceValue, known_in, with_data}
use Rattle.rb_verifier.proofs.places.Places.with_data.Given as goal

abbrev pub invariant-loop-i : goal.invariant-loop-i
invariant-loop-i l = record {
  count : length l.items.items ≡ l.i;
  built : (j : ℕ) → j < l.i → get_or l.items.items j Number ≡ with_data l.at l.len (known_in l.self) (63 - j);
  values : (j : ℕ) → j < l.i → IsPlaceValue (get_or l.items.items j Number);
}
