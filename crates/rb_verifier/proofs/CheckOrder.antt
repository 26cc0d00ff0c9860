-- The checks on one value are monotone, and so are the abstract results of instructions.
use Rattle.std.proofs.Common.{◌≡◌, ℕ, ℤ, refl, List, Result, Ok, Err, Option, Some, None}
use Rattle.rb_insn.specs.declared.insn.Insn.{Insn}
use Rattle.rb_verifier.specs.declared.arithmetic.Direction.{Direction}
use Rattle.rb_verifier.specs.declared.limits.Limits.{Limits}
use Rattle.rb_verifier.specs.declared.references.Reference.{Reference}
use Rattle.rb_verifier.specs.declared.rule.Rule.{Rule}
use Rattle.rb_verifier.specs.declared.rule.Rule.TheVariants as rule
use Rattle.rb_verifier.specs.declared.value.Abs.{Abs}
use Rattle.rb_verifier.specs.declared.value.Abs.TheVariants.{Unreadable, Number, Known, Ctx, Stack, Ring, Perhaps, Record}
use Rattle.rb_verifier.specs.declared.reference_changes.Change.{Change}
use Rattle.rb_verifier.specs.declared.reference_changes.Change.TheVariants.{IsNull, IsThere, GivenBack}
use Rattle.rb_verifier.specs.AbstractValues.{IsNumber, BelowValue}
use Rattle.rb_verifier.specs.inner.ChangedValues.{after_change, place_after}
use Rattle.rb_verifier.specs.ValueChecks.{◌>>=◌, Check, check_readable, check_number, check_tested, check_not_context, check_inside, check_ring, check_part_pointer, check_known_size, check_record_size, check_record_start}
use Rattle.rb_verifier.specs.AbstractArithmetic.{abstract_result, check_numbers, check_arithmetic}
use Rattle.rb_verifier.specs.StepOrder.{ResultBelow}
use Rattle.rb_verifier.proofs.Order.{below_value_refl, below_cases, number_cases}

-- ---- results

result_refl : {A : Type 0} (R : A → A → Type 0) → ((x : A) → R x x) → (m : Result A Rule) → ResultBelow R m m
result_refl R r (Ok x) = r x
result_refl R r (Err e) = tt

pub result_bind : {A B : Type 0} (R : A → A → Type 0) (S : B → B → Type 0) (m n : Result A Rule) (f g : A → Result B Rule) → ResultBelow R m n → ((x y : A) → R x y → ResultBelow S (f x) (g y)) → ResultBelow S (m >>= f) (n >>= g)
result_bind R S m (Err e) f g h k = tt
result_bind R S (Ok x) (Ok y) f g h k = k x y h
result_bind R S (Err e) (Ok y) f g h k = absurd h

-- a check that holds for the greater value holds for the smaller one
abbrev pub CheckBelow : Check → Check → Type 0
CheckBelow = ResultBelow (λ _ _. Unit {0})

pub check_refl : (m : Check) → CheckBelow m m
check_refl = result_refl (λ _ _. Unit {0}) (λ _. tt)

-- ---- checks on one value

pub readable_below : (v w : Abs) → BelowValue v w → CheckBelow (check_readable v) (check_readable w)
readable_below =
    below_cases (λ v w. CheckBelow (check_readable v) (check_readable w)) (λ v. tt)
    (number_cases (λ v. CheckBelow (check_readable v) (check_readable Number)) tt (λ n. tt)) (λ v. check_refl (check_readable v))

pub number_below : (r : Rule) (v w : Abs) → BelowValue v w → CheckBelow (check_number r v) (check_number r w)
number_below r =
    below_cases (λ v w. CheckBelow (check_number r v) (check_number r w)) (λ v. tt)
    (number_cases (λ v. CheckBelow (check_number r v) (check_number r Number)) tt (λ n. tt)) (λ v. check_refl (check_number r v))

pub tested_below : (v w : Abs) → BelowValue v w → CheckBelow (check_tested v) (check_tested w)
tested_below =
    below_cases (λ v w. CheckBelow (check_tested v) (check_tested w)) (λ v. tt)
    (number_cases (λ v. CheckBelow (check_tested v) (check_tested Number)) tt (λ n. tt)) (λ v. check_refl (check_tested v))

pub not_context_below : (v w : Abs) → BelowValue v w → CheckBelow (check_not_context v) (check_not_context w)
not_context_below =
    below_cases (λ v w. CheckBelow (check_not_context v) (check_not_context w)) (λ v. tt)
    (number_cases (λ v. CheckBelow (check_not_context v) (check_not_context Number)) tt (λ n. tt)) (λ v. check_refl (check_not_context v))

pub in_part_below : (v w : Abs) → BelowValue v w → CheckBelow (check_part_pointer v) (check_part_pointer w)
in_part_below = below_cases (λ v w. CheckBelow (check_part_pointer v) (check_part_pointer w)) (λ v. tt) (λ v h. tt) (λ v. check_refl (check_part_pointer v))

pub inside_below : (limits : Limits) (held : List Reference) (by : ℤ) (len : ℕ) (v w : Abs) → BelowValue v w → CheckBelow (check_inside limits held v by len) (check_inside limits held w by len)
inside_below limits held by len =
    below_cases (λ v w. CheckBelow (check_inside limits held v by len) (check_inside limits held w by len)) (λ v. tt) (λ v h. tt)
    (λ v. check_refl (check_inside limits held v by len))

abbrev pub Same : Result ℕ Rule → Result ℕ Rule → Type 0
Same = ResultBelow ◌≡◌

pub ring_of_below : (v w : Abs) → BelowValue v w → Same (check_ring v) (check_ring w)
ring_of_below = below_cases (λ v w. Same (check_ring v) (check_ring w)) (λ v. tt) (λ v h. tt) (λ v. result_refl ◌≡◌ (λ x. refl) (check_ring v))

pub known_size_below : (v w : Abs) → BelowValue v w → Same (check_known_size v) (check_known_size w)
known_size_below = below_cases (λ v w. Same (check_known_size v) (check_known_size w)) (λ v. tt) (λ v h. tt) (λ v. result_refl ◌≡◌ (λ x. refl) (check_known_size v))

pub record_size_below : (v w : Abs) → BelowValue v w → Same (check_record_size v) (check_record_size w)
record_size_below = below_cases (λ v w. Same (check_record_size v) (check_record_size w)) (λ v. tt) (λ v h. tt) (λ v. result_refl ◌≡◌ (λ x. refl) (check_record_size v))

pub record_start_below : (v w : Abs) → BelowValue v w → Same (check_record_start v) (check_record_start w)
record_start_below = below_cases (λ v w. Same (check_record_start v) (check_record_start w)) (λ v. tt) (λ v h. tt) (λ v. result_refl ◌≡◌ (λ x. refl) (check_record_start v))

-- ---- arithmetic

computed_number : (insn : Insn) (v w : Abs) → IsNumber (abstract_result insn v w)
computed_number insn Unreadable w = tt
computed_number insn Number w = tt
computed_number insn (Ctx o) w = tt
computed_number insn (Stack o) w = tt
computed_number insn (Ring n) w = tt
computed_number insn (Perhaps n) w = tt
computed_number insn (Record n o) w = tt
computed_number insn (Known m) Unreadable = tt
computed_number insn (Known m) Number = tt
computed_number insn (Known m) (Known n) = tt
computed_number insn (Known m) (Ctx o) = tt
computed_number insn (Known m) (Stack o) = tt
computed_number insn (Known m) (Ring n) = tt
computed_number insn (Known m) (Perhaps n) = tt
computed_number insn (Known m) (Record n o) = tt

computed_right : (insn : Insn) (v w w' : Abs) → BelowValue w w' → BelowValue (abstract_result insn v w) (abstract_result insn v w')
computed_right insn Unreadable w w' h = tt
computed_right insn Number w w' h = tt
computed_right insn (Ctx o) w w' h = tt
computed_right insn (Stack o) w w' h = tt
computed_right insn (Ring n) w w' h = tt
computed_right insn (Perhaps n) w w' h = tt
computed_right insn (Record n o) w w' h = tt
computed_right insn (Known m) w w' h =
    below_cases (λ w w'. BelowValue (abstract_result insn (Known m) w) (abstract_result insn (Known m) w')) (λ w. computed_number insn (Known m) w)
    (λ w n. computed_number insn (Known m) w) (λ w. below_value_refl (abstract_result insn (Known m) w)) w w' h

pub computed_below : (insn : Insn) (v v' w w' : Abs) → BelowValue v v' → BelowValue w w' → BelowValue (abstract_result insn v w) (abstract_result insn v' w')
computed_below insn v v' w w' g h =
    below_cases (λ v v'. BelowValue (abstract_result insn v w) (abstract_result insn v' w')) (λ v. computed_number insn v w)
    (λ v n. computed_number insn v w) (λ v. computed_right insn v w w' h) v v' g

abbrev ValueBelow : Result Abs Rule → Result Abs Rule → Type 0
ValueBelow = ResultBelow BelowValue

on_numbers_below : (insn : Insn) (v v' w w' : Abs) → BelowValue v v' → BelowValue w w' → ValueBelow (check_numbers insn v w) (check_numbers insn v' w')
on_numbers_below insn v v' w w' g h =
    result_bind (λ _ _. Unit {0}) BelowValue (check_number rule.PointerArithmetic v) (check_number rule.PointerArithmetic v') _ _ (number_below rule.PointerArithmetic v v' g) (λ _ _ _.
    result_bind (λ _ _. Unit {0}) BelowValue (check_number rule.PointerArithmetic w) (check_number rule.PointerArithmetic w') _ _ (number_below rule.PointerArithmetic w w' h) (λ _ _ _.
    computed_below insn v v' w w' g h))

module _ (direction : Direction) (insn : Insn) where
  abbrev Sum : Abs → Abs → Result Abs Rule
  Sum = check_arithmetic (Some direction) insn

  -- a pointer into a part, moved by an abstract operand
  moved_pointer : (v : Abs) → (top : (w : Abs) → ValueBelow (Sum v w) (Sum v Unreadable)) → (check_number : (w : Abs) → ValueBelow (Sum v w) (Sum v Number)) → (w w' : Abs) → BelowValue w w' → ValueBelow (Sum v w) (Sum v w')
  moved_pointer v top check_number =
      below_cases (λ w w'. ValueBelow (Sum v w) (Sum v w')) top (λ w n. check_number w) (λ w. result_refl BelowValue below_value_refl (Sum v w))

  combined_same : (v w w' : Abs) → BelowValue w w' → ValueBelow (Sum v w) (Sum v w')
  combined_same Unreadable w w' h = on_numbers_below insn Unreadable Unreadable w w' tt h
  combined_same Number w w' h = on_numbers_below insn Number Number w w' tt h
  combined_same (Known n) w w' h = on_numbers_below insn (Known n) (Known n) w w' refl h
  combined_same (Ctx o) w w' h = moved_pointer (Ctx o) (λ w. tt) (λ w. tt) w w' h
  combined_same (Stack o) w w' h = moved_pointer (Stack o) (λ w. tt) (λ w. tt) w w' h
  combined_same (Ring n) w w' h = on_numbers_below insn (Ring n) (Ring n) w w' refl h
  combined_same (Perhaps n) w w' h = on_numbers_below insn (Perhaps n) (Perhaps n) w w' refl h
  combined_same (Record n o) w w' h = moved_pointer (Record n o) (λ w. tt) (λ w. tt) w w' h

  combined_number : (w w' : Abs) → BelowValue w w' → (v : Abs) → IsNumber v → ValueBelow (Sum v w) (Sum Number w')
  combined_number w w' h =
      number_cases (λ v. ValueBelow (Sum v w) (Sum Number w')) (on_numbers_below insn Number Number w w' tt h) (λ n. on_numbers_below insn (Known n) Number w w' tt h)

  combined_moving : (v v' w w' : Abs) → BelowValue v v' → BelowValue w w' → ValueBelow (Sum v w) (Sum v' w')
  combined_moving v v' w w' g h =
      below_cases (λ v v'. ValueBelow (Sum v w) (Sum v' w')) (λ v. tt) (combined_number w w' h) (λ v. combined_same v w w' h) v v' g

pub combined_below : (direction : Option Direction) (insn : Insn) (v v' w w' : Abs) → BelowValue v v' → BelowValue w w' → ResultBelow BelowValue (check_arithmetic direction insn v w) (check_arithmetic direction insn v' w')
combined_below None insn v v' w w' g h = on_numbers_below insn v v' w w' g h
combined_below (Some direction) insn v v' w w' g h = combined_moving direction insn v v' w w' g h

-- ---- changes of values

pub changed_below : (change : Change) (v w : Abs) → BelowValue v w → BelowValue (after_change change v) (after_change change w)
changed_below (IsNull id) =
    below_cases (λ v w. BelowValue (after_change (IsNull id) v) (after_change (IsNull id) w)) (λ v. tt)
    (number_cases (λ v. BelowValue (after_change (IsNull id) v) Number) tt (λ n. tt)) (λ v. below_value_refl (after_change (IsNull id) v))
changed_below (IsThere id) =
    below_cases (λ v w. BelowValue (after_change (IsThere id) v) (after_change (IsThere id) w)) (λ v. tt)
    (number_cases (λ v. BelowValue (after_change (IsThere id) v) Number) tt (λ n. tt)) (λ v. below_value_refl (after_change (IsThere id) v))
changed_below (GivenBack id) =
    below_cases (λ v w. BelowValue (after_change (GivenBack id) v) (after_change (GivenBack id) w)) (λ v. tt)
    (number_cases (λ v. BelowValue (after_change (GivenBack id) v) Number) tt (λ n. tt)) (λ v. below_value_refl (after_change (GivenBack id) v))

pub place_changed_below : (change : Change) (v w : Abs) → BelowValue v w → BelowValue (place_after change v) (place_after change w)
place_changed_below (IsNull id) =
    below_cases (λ v w. BelowValue (place_after (IsNull id) v) (place_after (IsNull id) w)) (λ v. tt)
    (number_cases (λ v. BelowValue (place_after (IsNull id) v) Number) tt (λ n. tt)) (λ v. below_value_refl (place_after (IsNull id) v))
place_changed_below (IsThere id) = changed_below (IsThere id)
place_changed_below (GivenBack id) = changed_below (GivenBack id)
