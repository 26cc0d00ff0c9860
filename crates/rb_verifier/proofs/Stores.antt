-- The result of a store of a value, given the places that it leaves.
use Rattle.std.proofs.Common.{◌≡◌, ℕ, ℤ, Option, Ok, Err, refl, inl, inr, ap, ◌∙◌}
use Rattle.rb_insn.specs.declared.reg.Reg.{Reg}
use Rattle.rb_verifier.specs.declared.limits.Limits.{Limits}
use Rattle.rb_verifier.specs.declared.rule.StepFault.{StepFault}
use Rattle.rb_verifier.specs.declared.rule.StepFault.TheVariants as fault
use Rattle.rb_verifier.specs.declared.state.AbsState.{AbsState}
use Rattle.rb_verifier.specs.declared.value.Abs.{Abs}
use Rattle.rb_verifier.specs.AbstractStates.{value_in, effect_on_both, IsLeft}
use Rattle.rb_verifier.specs.KeptPointers.{byte_behind, check_stored}
use Rattle.rb_verifier.specs.ValueChecks.{◌>>=◌, check_tested, check_not_context, check_inside}
use Rattle.rb_verifier.specs.VerifierChecks.{check_store}
use Rattle.rb_verifier.specs.inner.StackReach.{IsPlaced}

module _ (limits : Limits) (base : Reg) (offset : ℤ) (len : ℕ) (v b : Abs) (s : AbsState) (base_is : b ≡ value_in s base.number) (tested : Ok tt ≡ check_tested b) (not_context : Ok tt ≡ check_not_context b)
    (inside : check_inside limits s.held b offset len ≡ Ok tt) (byte : Option ℕ) (byte_is : byte ≡ byte_behind b offset) where
  by_places : check_store limits base offset len v s ≡ (check_stored byte len v s.places >>= (λ places. Ok (effect_on_both (record s { places = places }))))
  by_places = rw (← base_is, ← tested, ← not_context, inside, ← byte_is) refl

  pub store_left : (f : StepFault) → IsPlaced (Err f) s.places (check_stored byte len v s.places) → IsLeft (Err f) s (check_store limits base offset len v s)
  store_left (fault.Rule broken) placed = by_places ∙ ap (λ r. r >>= (λ places. Ok (effect_on_both (record s { places = places })))) placed
  store_left fault.Memory (inl keeps) = inl keeps
  store_left fault.Memory (inr (stored, is, keeps)) = inr (effect_on_both (record s { places = stored }), by_places ∙ ap (λ r. r >>= (λ places. Ok (effect_on_both (record s { places = places })))) is, keeps)
