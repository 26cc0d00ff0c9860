-- Laws of the abstract step for the verifier, and for an interpreter of verified programs.
use Rattle.std.proofs.Common.{◌≡◌, refl, Result, Ok, Err}
use Rattle.rb_verifier.specs.declared.rule.Rule.{Rule}
use Rattle.rb_verifier.specs.ValueChecks.{◌>>=◌}
pub use Rattle.rb_verifier.proofs.Order.{below_value_refl, below_value_trans, below_cases, number_cases, below_refl, below_trans}
pub use Rattle.rb_verifier.proofs.KeptPlaces.{known-listed, known-past}
pub use Rattle.rb_verifier.proofs.StepOrder.{step_below}
pub use Rattle.rb_verifier.proofs.Forms.{form_entry, form_below, form_later, step_forms}

-- if a check followed by others passes, the check passes, and so do the others
pub record BothHold {A B : Type 0} (m : Result A Rule) (f : A → Result B Rule) (y : B) : Type 0 where
  pub value : A
  pub first : m ≡ Ok value
  pub others : f value ≡ Ok y

pub both_hold : {A B : Type 0} (m : Result A Rule) (f : A → Result B Rule) (y : B) → m >>= f ≡ Ok y → BothHold m f y
both_hold (Ok x) f y e = record { value = x; first = refl; others = e }
both_hold (Err broken) f y e = absurd (cc)
