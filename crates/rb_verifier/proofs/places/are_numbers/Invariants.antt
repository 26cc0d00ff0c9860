use Rattle.std.proofs.Common.{◌≡◌, ◌<◌, ℕ, get_or}
use Rattle.rb_verifier.specs.declared.value.Abs.TheVariants.{Number}
use Rattle.rb_verifier.proofs.places.are_numbers.Given as goal

abbrev pub invariant-loop-value : goal.invariant-loop-value
invariant-loop-value l = (k : ℕ) → k < l.value-index → get_or l.values k Number ≡ Number
