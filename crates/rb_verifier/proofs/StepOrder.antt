-- The abstract step is monotone, case by case and as a whole.
use Rattle.std.proofs.Common.{◌≡◌, ℕ, ℤ, pos, refl, subst, List, [], ◌∷◌, ◌++◌, filter, map, Result, Ok, false, Option, Some, None}
use Rattle.std.specs.Prelude.{nat_le, not}
use Rattle.rb_insn.specs.ArithmeticAndJumps.{value_of}
use Rattle.rb_insn.specs.declared.insn.Insn.{Insn}
use Rattle.rb_insn.specs.declared.insn.Insn.TheVariants.{Binary, Division, Negate, Move, MoveExtended32, MoveExtended64, Reorder, Jump, JumpFar, Branch, Call, Exit, LoadNumber, LoadRing, Load, LoadSigned, StoreImmediate, StoreRegister}
use Rattle.rb_insn.specs.declared.insn.Operand.{Operand}
use Rattle.rb_insn.specs.declared.insn.Operand.TheVariants.{Immediate, Register}
use Rattle.rb_insn.specs.declared.insn.Width.TheVariants.{W32, W64}
use Rattle.rb_insn.specs.declared.reg.Reg.{Reg}
use Rattle.rb_verifier.specs.declared.arithmetic.Direction.{Direction}
use Rattle.rb_verifier.specs.declared.branches.NullTest.{NullTest}
use Rattle.rb_verifier.specs.declared.branches.NullTest.TheVariants.{JumpsIfNull, JumpsIfThere}
use Rattle.rb_verifier.specs.declared.reference_changes.Change.TheVariants.{IsNull, IsThere, GivenBack}
use Rattle.rb_verifier.specs.declared.limits.Limits.{Limits}
use Rattle.rb_verifier.specs.declared.helper.Helper.{Helper}
use Rattle.rb_verifier.specs.declared.helper.Helper.TheVariants.{Output, Reserve, Submit, Discard, Query}
use Rattle.rb_verifier.specs.declared.references.Reference.{Reference}
use Rattle.rb_verifier.specs.declared.rule.Rule.{Rule}
use Rattle.rb_verifier.specs.declared.rule.Rule.TheVariants as rule
use Rattle.rb_verifier.specs.declared.state.AbsState.{AbsState}
use Rattle.rb_verifier.specs.declared.state.Effect.{Effect}
use Rattle.rb_verifier.specs.declared.value.Abs.{Abs}
use Rattle.rb_verifier.specs.declared.value.Abs.TheVariants.{Unreadable, Number, Known, Ctx, Stack, Ring, Perhaps, Record}
use Rattle.rb_verifier.specs.AbstractArithmetic.{operand_value, direction_of}
use Rattle.rb_verifier.specs.Branches.{null_test_of, check_branch}
use Rattle.rb_verifier.specs.ValueChecks.{◌>>=◌, Check, refused_if, check_writable, check_readable, check_number, check_tested, check_not_context, check_inside, check_part_pointer, check_known_size}
use Rattle.rb_verifier.specs.HelperChecks.{helper_of, check_call, check_output, check_reserve, check_give_back, check_query, after_reserve, after_answer}
use Rattle.rb_verifier.specs.ReferenceChanges.{given_back_state, null_state, there_state}
use Rattle.rb_verifier.specs.References.{is_empty, is_full, other_than, tested_in}
use Rattle.rb_verifier.specs.KeptPointers.{known_in, byte_behind, check_data, check_loaded, check_stored}
use Rattle.rb_verifier.specs.AbstractStates.{Below, EffectBelow, value_in, effect_on_both}
use Rattle.rb_verifier.specs.VerifierChecks.{abstract_step, assignment_effect, check_assign, check_copy, check_convert, check_unary, check_binary, check_ring_load, check_load, check_store, check_exit}
use Rattle.rb_verifier.specs.StepOrder.{ResultBelow, StepKeepsOrder}
use Rattle.rb_verifier.specs.AbstractValues.{IsNumber, BelowValue}
use Rattle.rb_insn.specs.Sizes.{byte_count, signed_byte_count}
use Rattle.rb_verifier.proofs.Order.{below_value_refl, below_cases, number_cases}
use Rattle.rb_verifier.proofs.CheckOrder.{result_bind, CheckBelow, check_refl, readable_below, number_below, inside_below, ring_of_below, known_size_below, record_size_below, record_start_below, computed_below, combined_below}
use Rattle.rb_verifier.proofs.KeptOrder.{ListsBelow, data_same, loaded_same, stored_same}
use Rattle.rb_verifier.proofs.StateOrder.{put_below, placed_below, changes_below, held_below, answered_below, both_below}

abbrev StepBelow : Result Effect Rule → Result Effect Rule → Type 0
StepBelow = ResultBelow EffectBelow

-- a check followed by the rest of a step
checked : (m n : Check) (f g : Unit {0} → Result Effect Rule) → CheckBelow m n → StepBelow (f tt) (g tt) → StepBelow (m >>= f) (n >>= g)
checked m n f g h k = result_bind (λ _ _. Unit {0}) EffectBelow m n f g h (λ _ _ _. k)

operand_below : (operand : Operand) (s t : AbsState) → Below s t → BelowValue (operand_value operand s) (operand_value operand t)
operand_below (Immediate k) s t h = refl
operand_below (Register r) s t h = h.values r.number

module _ (limits : Limits) (s t : AbsState) (h : Below s t) where
  abbrev At : ℕ → Type 0
  At r = BelowValue (value_in s r) (value_in t r)

  assigned_below : (dst : Reg) (v w : Abs) → BelowValue v w → EffectBelow (assignment_effect dst v s) (assignment_effect dst w t)
  assigned_below dst v w b = both_below _ _ (put_below s t dst.number v w h b)

  inside_here : (v w : Abs) (by : ℤ) (len : ℕ) → BelowValue v w → CheckBelow (check_inside limits s.held v by len) (check_inside limits t.held w by len)
  inside_here v w by len b = subst (λ held. CheckBelow (check_inside limits s.held v by len) (check_inside limits held w by len)) h.held (inside_below limits s.held by len v w b)

  -- a check on the references alone
  held_check : (f : List Reference → Check) → CheckBelow (f s.held) (f t.held)
  held_check f = subst (λ held. CheckBelow (f s.held) (f held)) h.held (check_refl (f s.held))

  given_below : (dst : Reg) (v : Abs) → StepBelow (check_assign dst v s) (check_assign dst v t)
  given_below dst v = checked (check_writable dst) (check_writable dst) _ _ (check_refl (check_writable dst)) (assigned_below dst v v (below_value_refl v))

  copied_below : (dst src : Reg) → StepBelow (check_copy dst src s) (check_copy dst src t)
  copied_below dst src =
      checked (check_writable dst) (check_writable dst) _ _ (check_refl (check_writable dst))
      (checked (check_readable (value_in s src.number)) (check_readable (value_in t src.number)) _ _ (readable_below _ _ (h.values src.number)) (assigned_below dst _ _ (h.values src.number)))

  converted_below : (insn : Insn) (dst src : Reg) → StepBelow (check_convert insn dst src s) (check_convert insn dst src t)
  converted_below insn dst src =
      checked (check_writable dst) (check_writable dst) _ _ (check_refl (check_writable dst))
      (checked (check_number rule.PointerArithmetic (value_in s src.number)) (check_number rule.PointerArithmetic (value_in t src.number)) _ _ (number_below rule.PointerArithmetic _ _ (h.values src.number))
      (assigned_below dst _ _ (computed_below insn (Known 0) (Known 0) _ _ refl (h.values src.number))))

  altered_below : (insn : Insn) (dst : Reg) → StepBelow (check_unary insn dst s) (check_unary insn dst t)
  altered_below insn dst =
      checked (check_writable dst) (check_writable dst) _ _ (check_refl (check_writable dst))
      (checked (check_number rule.PointerArithmetic (value_in s dst.number)) (check_number rule.PointerArithmetic (value_in t dst.number)) _ _ (number_below rule.PointerArithmetic _ _ (h.values dst.number))
      (assigned_below dst _ _ (computed_below insn _ _ (Known 0) (Known 0) (h.values dst.number) refl)))

  operated_below : (direction : Option Direction) (insn : Insn) (dst : Reg) (operand : Operand) → StepBelow (check_binary direction insn dst operand s) (check_binary direction insn dst operand t)
  operated_below direction insn dst operand =
      let left : At dst.number = h.values dst.number in
      let right : BelowValue (operand_value operand s) (operand_value operand t) = operand_below operand s t h in
      checked (check_writable dst) (check_writable dst) _ _ (check_refl (check_writable dst))
      (checked (check_readable (value_in s dst.number)) (check_readable (value_in t dst.number)) _ _ (readable_below _ _ left)
      (checked (check_readable (operand_value operand s)) (check_readable (operand_value operand t)) _ _ (readable_below _ _ right)
      (result_bind BelowValue EffectBelow _ _ _ _ (combined_below direction insn _ _ _ _ left right) (λ v w b. assigned_below dst v w b))))

  ring_given_below : (dst : Reg) (ring : ℕ) → StepBelow (check_ring_load limits dst ring s) (check_ring_load limits dst ring t)
  ring_given_below dst ring =
      checked (check_writable dst) (check_writable dst) _ _ (check_refl (check_writable dst))
      (checked (refused_if (nat_le limits.rings ring) rule.HelperArgument) _ _ _ (check_refl (refused_if (nat_le limits.rings ring) rule.HelperArgument)) (assigned_below dst (Ring ring) (Ring ring) refl))

  -- the rest of a load, given the abstract value of its base
  abbrev load_from : Abs → Reg → ℤ → ℕ → AbsState → Result Effect Rule
  load_from v dst by len u = check_tested v >>= (λ _. check_inside limits u.held v by len >>= (λ _. check_loaded (byte_behind v by) len (known_in u.places) >>= (λ x. Ok (assignment_effect dst x u))))

  load_same : (dst : Reg) (by : ℤ) (len : ℕ) (v : Abs) → StepBelow (load_from v dst by len s) (load_from v dst by len t)
  load_same dst by len v =
      checked (check_tested v) (check_tested v) _ _ (check_refl (check_tested v))
      (checked (check_inside limits s.held v by len) (check_inside limits t.held v by len) _ _ (inside_here v v by len (below_value_refl v))
      (result_bind BelowValue EffectBelow _ _ _ _ (loaded_same (known_in s.places) (known_in t.places) h.places (byte_behind v by) len) (λ x y b. assigned_below dst x y b)))

  loaded_below : (dst base : Reg) (by : ℤ) (len : ℕ) → StepBelow (check_load limits dst base by len s) (check_load limits dst base by len t)
  loaded_below dst base by len =
      checked (check_writable dst) (check_writable dst) _ _ (check_refl (check_writable dst))
      (below_cases (λ v w. StepBelow (load_from v dst by len s) (load_from w dst by len t)) (λ v. tt) (λ v n. tt) (load_same dst by len) (value_in s base.number) (value_in t base.number) (h.values base.number))

  -- a store, given the abstract value of its base
  abbrev store_from : Abs → ℤ → ℕ → Abs → AbsState → Result Effect Rule
  store_from v by len x u =
      check_tested v >>= (λ _. check_not_context v >>= (λ _. check_inside limits u.held v by len >>= (λ _. check_stored (byte_behind v by) len x u.places >>= (λ places. Ok (effect_on_both (record u { places = places }))))))

  store_same : (by : ℤ) (len : ℕ) (x y : Abs) → BelowValue x y → (v : Abs) → StepBelow (store_from v by len x s) (store_from v by len y t)
  store_same by len x y b v =
      checked (check_tested v) (check_tested v) _ _ (check_refl (check_tested v))
      (checked (check_not_context v) (check_not_context v) _ _ (check_refl (check_not_context v))
      (checked (check_inside limits s.held v by len) (check_inside limits t.held v by len) _ _ (inside_here v v by len (below_value_refl v))
      (result_bind ListsBelow EffectBelow _ _ _ _ (stored_same s.places t.places h.places (byte_behind v by) len x y b) (λ f g k. both_below _ _ (placed_below s t f g h k)))))

  stored_below : (base : Reg) (by : ℤ) (len : ℕ) (v w : Abs) → BelowValue v w → StepBelow (check_store limits base by len v s) (check_store limits base by len w t)
  stored_below base by len x y b =
      below_cases (λ v w. StepBelow (store_from v by len x s) (store_from w by len y t)) (λ v. tt) (λ v n. tt) (store_same by len x y b) (value_in s base.number) (value_in t base.number) (h.values base.number)

  ended_below : StepBelow (check_exit s) (check_exit t)
  ended_below =
      checked (refused_if (not (is_empty s.held)) rule.ReferenceLeft) (refused_if (not (is_empty t.held)) rule.ReferenceLeft) _ _ (held_check (λ held. refused_if (not (is_empty held)) rule.ReferenceLeft))
      (checked (check_number rule.ResultNotNumber (value_in s 0)) (check_number rule.ResultNotNumber (value_in t 0)) _ _ (number_below rule.ResultNotNumber _ _ (h.values 0)) (both_below s t h))

  -- ---- conditional jumps

  compared_below : (v v' w w' : Abs) → BelowValue v v' → BelowValue w w' → StepBelow (check_branch None v w s) (check_branch None v' w' t)
  compared_below v v' w w' g k =
      checked (check_readable v) (check_readable v') _ _ (readable_below v v' g)
      (checked (check_readable w) (check_readable w') _ _ (readable_below w w' k)
      (checked (check_number rule.PointerCompared v) (check_number rule.PointerCompared v') _ _ (number_below rule.PointerCompared v v' g)
      (checked (check_number rule.PointerCompared w) (check_number rule.PointerCompared w') _ _ (number_below rule.PointerCompared w w' k) (both_below s t h))))

  null_below : (id : ℕ) → Below (null_state id s) (null_state id t)
  null_below id = changes_below (IsNull id) (filter (other_than id)) s t h

  there_below : (id : ℕ) → Below (there_state id s) (there_state id t)
  there_below id = changes_below (IsThere id) (map (tested_in id)) s t h

  null_test_same : (test : NullTest) (w w' : Abs) → BelowValue w w' → (v : Abs) → StepBelow (check_branch (Some test) v w s) (check_branch (Some test) v w' t)
  null_test_same JumpsIfNull w w' k (Perhaps id) = record { next = there_below id; jump = null_below id }
  null_test_same JumpsIfNull w w' k Unreadable = tt
  null_test_same JumpsIfNull w w' k Number = compared_below Number Number w w' tt k
  null_test_same JumpsIfNull w w' k (Known n) = compared_below (Known n) (Known n) w w' refl k
  null_test_same JumpsIfNull w w' k (Ctx o) = compared_below (Ctx o) (Ctx o) w w' refl k
  null_test_same JumpsIfNull w w' k (Stack o) = compared_below (Stack o) (Stack o) w w' refl k
  null_test_same JumpsIfNull w w' k (Ring n) = compared_below (Ring n) (Ring n) w w' refl k
  null_test_same JumpsIfNull w w' k (Record n o) = compared_below (Record n o) (Record n o) w w' refl k
  null_test_same JumpsIfThere w w' k (Perhaps id) = record { next = null_below id; jump = there_below id }
  null_test_same JumpsIfThere w w' k Unreadable = tt
  null_test_same JumpsIfThere w w' k Number = compared_below Number Number w w' tt k
  null_test_same JumpsIfThere w w' k (Known n) = compared_below (Known n) (Known n) w w' refl k
  null_test_same JumpsIfThere w w' k (Ctx o) = compared_below (Ctx o) (Ctx o) w w' refl k
  null_test_same JumpsIfThere w w' k (Stack o) = compared_below (Stack o) (Stack o) w w' refl k
  null_test_same JumpsIfThere w w' k (Ring n) = compared_below (Ring n) (Ring n) w w' refl k
  null_test_same JumpsIfThere w w' k (Record n o) = compared_below (Record n o) (Record n o) w w' refl k

  null_test_number : (test : NullTest) (w w' : Abs) → BelowValue w w' → (v : Abs) → IsNumber v → StepBelow (check_branch (Some test) v w s) (check_branch (Some test) Number w' t)
  null_test_number JumpsIfNull w w' k = number_cases (λ v. StepBelow (check_branch (Some JumpsIfNull) v w s) (check_branch (Some JumpsIfNull) Number w' t)) (compared_below Number Number w w' tt k) (λ n. compared_below (Known n) Number w w' tt k)
  null_test_number JumpsIfThere w w' k = number_cases (λ v. StepBelow (check_branch (Some JumpsIfThere) v w s) (check_branch (Some JumpsIfThere) Number w' t)) (compared_below Number Number w w' tt k) (λ n. compared_below (Known n) Number w w' tt k)

  null_test_top : (test : NullTest) (w w' : Abs) → (v : Abs) → StepBelow (check_branch (Some test) v w s) (check_branch (Some test) Unreadable w' t)
  null_test_top JumpsIfNull w w' v = tt
  null_test_top JumpsIfThere w w' v = tt

  branch_below : (test : Option NullTest) (v v' w w' : Abs) → BelowValue v v' → BelowValue w w' → StepBelow (check_branch test v w s) (check_branch test v' w' t)
  branch_below None v v' w w' g k = compared_below v v' w w' g k
  branch_below (Some test) v v' w w' g k =
      below_cases (λ v v'. StepBelow (check_branch (Some test) v w s) (check_branch (Some test) v' w' t)) (null_test_top test w w') (null_test_number test w w' k) (null_test_same test w w' k) v v' g

  -- ---- calls

  -- the rest of an output, given the abstract value of its data pointer
  abbrev output_from : Abs → AbsState → Result Effect Rule
  output_from v u =
      check_tested v >>= (λ _. check_part_pointer v >>= (λ _. check_known_size (value_in u 3) >>= (λ size. check_inside limits u.held v (pos 0) size >>= (λ _.
      check_data (byte_behind v (pos 0)) size (known_in u.places) >>= (λ _. check_number rule.HelperArgument (value_in u 4) >>= (λ _. Ok (effect_on_both (after_answer Number u))))))))

  output_same : (v : Abs) → StepBelow (output_from v s) (output_from v t)
  output_same v =
      checked (check_tested v) (check_tested v) _ _ (check_refl (check_tested v))
      (checked (check_part_pointer v) (check_part_pointer v) _ _ (check_refl (check_part_pointer v))
      (result_bind ◌≡◌ EffectBelow _ _ _ _ (known_size_below _ _ (h.values 3)) (λ n n' e.
      checked (check_inside limits s.held v (pos 0) n) (check_inside limits t.held v (pos 0) n') _ _
      (subst (λ len. CheckBelow (check_inside limits s.held v (pos 0) n) (check_inside limits t.held v (pos 0) len)) e (inside_here v v (pos 0) n (below_value_refl v)))
      (checked (check_data (byte_behind v (pos 0)) n (known_in s.places)) (check_data (byte_behind v (pos 0)) n' (known_in t.places)) _ _
      (subst (λ len. CheckBelow (check_data (byte_behind v (pos 0)) n (known_in s.places)) (check_data (byte_behind v (pos 0)) len (known_in t.places))) e (data_same (known_in s.places) (known_in t.places) h.places (byte_behind v (pos 0)) n))
      (checked (check_number rule.HelperArgument (value_in s 4)) (check_number rule.HelperArgument (value_in t 4)) _ _ (number_below rule.HelperArgument _ _ (h.values 4))
      (both_below _ _ (answered_below s t Number Number h tt)))))))

  output_below : StepBelow (check_output limits s) (check_output limits t)
  output_below =
      result_bind ◌≡◌ EffectBelow _ _ _ _ (ring_of_below _ _ (h.values 1)) (λ r r' _.
      below_cases (λ v w. StepBelow (output_from v s) (output_from w t)) (λ v. tt) (λ v n. tt) output_same (value_in s 2) (value_in t 2) (h.values 2))

  reserved_below : (unit ring size : ℕ) → Below (after_reserve unit ring size s) (after_reserve unit ring size t)
  reserved_below unit ring size =
      answered_below _ _ (Perhaps unit) (Perhaps unit) (held_below (λ held. held ++ (record { id = unit; ring = ring; size = size; sure = false }) ∷ []) s t h) refl

  reserve_below : (unit : ℕ) → StepBelow (check_reserve unit s) (check_reserve unit t)
  reserve_below unit =
      result_bind ◌≡◌ EffectBelow _ _ _ _ (ring_of_below _ _ (h.values 1)) (λ r r' d.
      result_bind ◌≡◌ EffectBelow _ _ _ _ (record_size_below _ _ (h.values 2)) (λ n n' e.
      checked (check_number rule.HelperArgument (value_in s 3)) (check_number rule.HelperArgument (value_in t 3)) _ _ (number_below rule.HelperArgument _ _ (h.values 3))
      (checked (refused_if (is_full s.held) rule.TooManyReferences) (refused_if (is_full t.held) rule.TooManyReferences) _ _ (held_check (λ held. refused_if (is_full held) rule.TooManyReferences))
      (both_below _ _ (subst (λ ring. Below (after_reserve unit r n s) (after_reserve unit ring n' t)) d (subst (λ size. Below (after_reserve unit r n s) (after_reserve unit r size t)) e (reserved_below unit r n)))))))

  give_back_below : StepBelow (check_give_back s) (check_give_back t)
  give_back_below =
      result_bind ◌≡◌ EffectBelow _ _ _ _ (record_start_below _ _ (h.values 1)) (λ n n' e.
      checked (check_number rule.HelperArgument (value_in s 2)) (check_number rule.HelperArgument (value_in t 2)) _ _ (number_below rule.HelperArgument _ _ (h.values 2))
      (both_below _ _ (answered_below _ _ Unreadable Unreadable (subst (λ id. Below (given_back_state n s) (given_back_state id t)) e (changes_below (GivenBack n) (filter (other_than n)) s t h)) tt)))

  query_below : StepBelow (check_query s) (check_query t)
  query_below =
      result_bind ◌≡◌ EffectBelow _ _ _ _ (ring_of_below _ _ (h.values 1)) (λ r r' _.
      checked (check_number rule.HelperArgument (value_in s 2)) (check_number rule.HelperArgument (value_in t 2)) _ _ (number_below rule.HelperArgument _ _ (h.values 2))
      (both_below _ _ (answered_below s t Number Number h tt)))

  call_below : (unit : ℕ) (helper : Option Helper) → StepBelow (check_call limits unit helper s) (check_call limits unit helper t)
  call_below unit None = tt
  call_below unit (Some Output) = output_below
  call_below unit (Some Reserve) = reserve_below unit
  call_below unit (Some Submit) = give_back_below
  call_below unit (Some Discard) = give_back_below
  call_below unit (Some Query) = query_below

-- checks that hold in a state hold in every state below it, and the effects are ordered likewise
pub step_below : StepKeepsOrder
unfolding abstract_step
step_below limits unit (Move width dst (Immediate k)) s t h = given_below limits s t h dst (Known (value_of (Move width dst (Immediate k)) 0 0))
step_below limits unit (Move W64 dst (Register src)) s t h = copied_below limits s t h dst src
step_below limits unit (Move W32 dst (Register src)) s t h = converted_below limits s t h (Move W32 dst (Register src)) dst src
step_below limits unit (MoveExtended32 low dst src) s t h = converted_below limits s t h (MoveExtended32 low dst src) dst src
step_below limits unit (MoveExtended64 low dst src) s t h = converted_below limits s t h (MoveExtended64 low dst src) dst src
step_below limits unit (Negate width dst) s t h = altered_below limits s t h (Negate width dst) dst
step_below limits unit (Reorder order width dst) s t h = altered_below limits s t h (Reorder order width dst) dst
step_below limits unit (Division width op sign dst operand) s t h = operated_below limits s t h None (Division width op sign dst operand) dst operand
step_below limits unit (Binary width op dst operand) s t h = operated_below limits s t h (direction_of width op) (Binary width op dst operand) dst operand
step_below limits unit (LoadNumber dst n) s t h = given_below limits s t h dst (Known n)
step_below limits unit (LoadRing dst ring) s t h = ring_given_below limits s t h dst ring
step_below limits unit (Load size dst base by) s t h = loaded_below limits s t h dst base by (byte_count size)
step_below limits unit (LoadSigned size dst base by) s t h = loaded_below limits s t h dst base by (signed_byte_count size)
step_below limits unit (StoreImmediate size base by k) s t h = stored_below limits s t h base by (byte_count size) Number Number tt
step_below limits unit (StoreRegister size base by src) s t h = stored_below limits s t h base by (byte_count size) _ _ (h.values src.number)
step_below limits unit (Branch width condition dst operand distance) s t h = branch_below limits s t h (null_test_of width condition operand) _ _ _ _ (h.values dst.number) (operand_below operand s t h)
step_below limits unit (Jump distance) s t h = both_below s t h
step_below limits unit (JumpFar distance) s t h = both_below s t h
step_below limits unit (Call helper) s t h = call_below limits s t h unit (helper_of helper)
step_below limits unit Exit s t h = ended_below limits s t h
