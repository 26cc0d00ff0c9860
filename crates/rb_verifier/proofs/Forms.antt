-- Every state has eleven values, and at most four references to records that were reserved at earlier units.
use Rattle.std.proofs.Common.{◌≡◌, ℕ, ◌+◌, ◌<◌, ◌≤◌, refl, sym, ◌∙◌, subst, List, [], ◌∷◌, length, filter, map, Bool, true, false, cond, Option, Some, None, Result, Ok, Err, length-set, length-append, arith}
use Rattle.std.specs.Prelude.{nat_le, not, ℤ, pos}
use Rattle.std.proofs.lemmas.List.{length-map}
use Rattle.std.proofs.lemmas.Bool.Decides.{nat_tests}
use Rattle.rb_insn.specs.declared.insn.Insn.{Insn}
use Rattle.rb_insn.specs.declared.insn.Insn.TheVariants.{Binary, Division, Negate, Move, MoveExtended32, MoveExtended64, Reorder, Jump, JumpFar, Branch, Call, Exit, LoadNumber, LoadRing, Load, LoadSigned, StoreImmediate, StoreRegister}
use Rattle.rb_insn.specs.declared.insn.Operand.{Operand}
use Rattle.rb_insn.specs.declared.insn.Operand.TheVariants.{Immediate, Register}
use Rattle.rb_insn.specs.declared.insn.Width.TheVariants.{W32, W64}
use Rattle.rb_insn.specs.declared.reg.Reg.{Reg}
use Rattle.rb_verifier.specs.declared.arithmetic.Direction.{Direction}
use Rattle.rb_verifier.specs.declared.branches.NullTest.{NullTest}
use Rattle.rb_verifier.specs.declared.branches.NullTest.TheVariants.{JumpsIfNull, JumpsIfThere}
use Rattle.rb_verifier.specs.declared.limits.Limits.{Limits}
use Rattle.rb_verifier.specs.declared.helper.Helper.{Helper}
use Rattle.rb_verifier.specs.declared.helper.Helper.TheVariants.{Output, Reserve, Submit, Discard, Query}
use Rattle.rb_verifier.specs.declared.references.Reference.{Reference}
use Rattle.rb_verifier.specs.declared.rule.Rule.{Rule}
use Rattle.rb_verifier.specs.declared.rule.Rule.TheVariants as rule
use Rattle.rb_verifier.specs.declared.state.AbsState.{AbsState}
use Rattle.rb_verifier.specs.declared.state.Effect.{Effect}
use Rattle.rb_verifier.specs.declared.value.Abs.{Abs}
use Rattle.rb_verifier.specs.declared.value.Abs.TheVariants.{Unreadable, Number, Known, Ctx, Stack, Ring, Perhaps, Record}
use Rattle.rb_verifier.specs.AbstractArithmetic.{operand_value, direction_of, check_arithmetic}
use Rattle.rb_verifier.specs.Branches.{null_test_of, check_branch}
use Rattle.rb_verifier.specs.ReferenceChanges.{given_back_state, null_state, there_state}
use Rattle.rb_verifier.specs.ValueChecks.{◌>>=◌, refused_if, check_writable, check_readable, check_number, check_tested, check_not_context, check_inside, check_ring, check_part_pointer, check_known_size, check_record_size, check_record_start}
use Rattle.rb_verifier.specs.Forms.{IsFormed, StepKeepsForm}
use Rattle.rb_verifier.specs.KeptPointers.{known_in, byte_behind, check_data, check_loaded, check_stored}
use Rattle.rb_verifier.specs.HelperChecks.{helper_of, check_call, after_reserve, after_answer}
use Rattle.rb_verifier.specs.References.{IsAscending, AreEarlier, is_empty, is_full, other_than, tested_in}
use Rattle.rb_verifier.specs.AbstractStates.{Below, value_in, put, effect_on_both, entry_state}
use Rattle.rb_verifier.specs.VerifierChecks.{abstract_step, assignment_effect, check_assign, check_copy, check_convert, check_unary, check_binary, check_ring_load, check_load, check_store, check_exit}
use Rattle.rb_insn.specs.Sizes.{byte_count, signed_byte_count}
use Rattle.rb_verifier.proofs.Ascending.{ids_weaker, ids_tested, ids_filtered, ids_added, ascending_tested, ascending_filtered, ascending_added}

-- at entry, no reference is held
pub form_entry : (unit : ℕ) → IsFormed unit entry_state
form_entry unit = record { count = refl; few = omega arith; ascending = tt; earlier = tt }

-- the form depends only on the references and on the number of values
pub form_below : {unit : ℕ} {s t : AbsState} → Below s t → IsFormed unit s → IsFormed unit t
form_below {unit} {s} {t} b h = record {
  count = sym b.count ∙ h.count;
  few = subst (λ held. length held ≤ 4) b.held h.few;
  ascending = subst IsAscending b.held h.ascending;
  earlier = subst (AreEarlier unit) b.held h.earlier;
}

pub form_later : {unit : ℕ} {s : AbsState} (later : ℕ) → unit ≤ later → IsFormed unit s → IsFormed later s
form_later {unit} {s} later le h = record {
  count = h.count;
  few = h.few;
  ascending = h.ascending;
  earlier = ids_weaker (λ n. n < unit) (λ n. n < later) (λ n lt. omega arith) s.held h.earlier;
}

length-filter_le : (p : Reference → Bool) (rs : List Reference) → length (filter p rs) ≤ length rs
length-filter_le p [] = omega arith
length-filter_le p (r ∷ rs) =
    let shorter : length (filter p rs) ≤ length rs = length-filter_le p rs in
    elim (p r) as (λ b. length (cond b (r ∷ filter p rs) (filter p rs)) ≤ length (r ∷ rs)) [ true ↦ omega arith | false ↦ omega arith ]

form_put : {unit : ℕ} (s : AbsState) (r : ℕ) (v : Abs) → IsFormed unit s → IsFormed unit (put s r v)
form_put s r v h = record { count = length-set s.values r v ∙ h.count; few = h.few; ascending = h.ascending; earlier = h.earlier }

form_answered : {unit : ℕ} (v : Abs) (s : AbsState) → IsFormed unit s → IsFormed unit (after_answer v s)
form_answered v s h = form_put _ 5 Unreadable (form_put _ 4 Unreadable (form_put _ 3 Unreadable (form_put _ 2 Unreadable (form_put _ 1 Unreadable (form_put s 0 v h)))))

-- changing each value and dropping a reference keeps the form
form_without : {unit : ℕ} (f : Abs → Abs) (id : ℕ) (places : List Abs) (s : AbsState) → IsFormed unit s → IsFormed unit (record { values = map f s.values; held = filter (other_than id) s.held; places = places })
form_without {unit} f id places s h = record {
  count = length-map s.values f ∙ h.count;
  few = let shorter : length (filter (other_than id) s.held) ≤ length s.held = length-filter_le (other_than id) s.held in let few : length s.held ≤ 4 = h.few in omega arith;
  ascending = ascending_filtered (other_than id) s.held h.ascending;
  earlier = ids_filtered (λ n. n < unit) (other_than id) s.held h.earlier;
}

-- changing each value and marking a reference as tested keeps the form
form_tested : {unit : ℕ} (f : Abs → Abs) (id : ℕ) (places : List Abs) (s : AbsState) → IsFormed unit s → IsFormed unit (record { values = map f s.values; held = map (tested_in id) s.held; places = places })
form_tested {unit} f id places s h = record {
  count = length-map s.values f ∙ h.count;
  few = subst (λ n. n ≤ 4) (sym (length-map s.held (tested_in id))) h.few;
  ascending = ascending_tested id s.held h.ascending;
  earlier = ids_tested (λ n. n < unit) id s.held h.earlier;
}

-- adding a reference to a record that was reserved at the unit keeps the form
form_reserved : (unit ring size : ℕ) (s : AbsState) → is_full s.held ≡ false → IsFormed unit s → IsFormed (unit + 1) (after_reserve unit ring size s)
form_reserved unit ring size s room h =
    form_answered (Perhaps unit) _ (record {
      count = h.count;
      few = let one_more = length-append s.held (new ∷ []) in let below : length s.held < 4 = grind (arith, nat_tests) in omega arith;
      ascending = ascending_added new s.held h.ascending h.earlier;
      earlier = ids_added (λ n. n < unit + 1) new s.held (ids_weaker (λ n. n < unit) (λ n. n < unit + 1) (λ n lt. omega arith) s.held h.earlier) (omega arith);
    })
  where
    new : Reference
    new = record { id = unit; ring = ring; size = size; sure = false }

-- if an instruction has an effect, the property holds for it
abbrev Gives : (Effect → Type 0) → Result Effect Rule → Type 0
Gives P (Ok e) = P e
Gives P (Err broken) = Unit {0}

module _ (P : Effect → Type 0) where
  -- continues after a check that passed
  past : {A : Type 0} (m : Result A Rule) (f : A → Result Effect Rule) → ((x : A) → Gives P (f x)) → Gives P (m >>= f)
  past (Ok x) f k = k x
  past (Err broken) f k = tt

  past_test : (b : Bool) (broken : Rule) (f : Unit {0} → Result Effect Rule) → (b ≡ false → Gives P (f tt)) → Gives P (refused_if b broken >>= f)
  past_test true broken f k = tt
  past_test false broken f k = k refl

abbrev BothFormed : ℕ → Effect → Type 0
BothFormed unit e = IsFormed unit e.next × IsFormed unit e.jump

abbrev GivesFormed : ℕ → Result Effect Rule → Type 0
GivesFormed unit = Gives (BothFormed unit)

module _ (limits : Limits) (unit : ℕ) (s : AbsState) (h : IsFormed unit s) where
  abbrev Next : Result Effect Rule → Type 0
  Next = GivesFormed (unit + 1)

  go : {A : Type 0} (m : Result A Rule) (f : A → Result Effect Rule) → ((x : A) → Next (f x)) → Next (m >>= f)
  go = past (BothFormed (unit + 1))

  kept : IsFormed (unit + 1) s
  kept = form_later (unit + 1) (omega arith) h

  both_kept : BothFormed (unit + 1) (effect_on_both s)
  both_kept = (kept, kept)

  both_put : (dst : Reg) (v : Abs) → BothFormed (unit + 1) (assignment_effect dst v s)
  both_put dst v = let k : IsFormed (unit + 1) (put s dst.number v) = form_put s dst.number v kept in (k, k)

  both_placed : (places : List Abs) → BothFormed (unit + 1) (effect_on_both (record s { places = places }))
  both_placed places = let k : IsFormed (unit + 1) (record s { places = places }) = record { count = h.count; few = h.few; ascending = h.ascending; earlier = kept.earlier } in (k, k)

  both_answered : (v : Abs) → BothFormed (unit + 1) (effect_on_both (after_answer v s))
  both_answered v = let k : IsFormed (unit + 1) (after_answer v s) = form_answered v s kept in (k, k)

  both_given_back : (id : ℕ) → BothFormed (unit + 1) (effect_on_both (after_answer Unreadable (given_back_state id s)))
  both_given_back id = let k : IsFormed (unit + 1) (after_answer Unreadable (given_back_state id s)) = form_answered Unreadable (given_back_state id s) (form_without _ id _ s kept) in (k, k)

  -- the abstract value of an argument
  abbrev arg : ℕ → Abs
  arg r = value_in s r

  call_formed : (helper : Option Helper) → Next (check_call limits unit helper s)
  call_formed None = tt
  call_formed (Some Output) =
      go (check_ring (arg 1)) _ (λ _. go (check_tested (arg 2)) _ (λ _. go (check_part_pointer (arg 2)) _ (λ _. go (check_known_size (arg 3)) _ (λ size.
      go (check_inside limits s.held (arg 2) (pos 0) size) _ (λ _. go (check_data (byte_behind (arg 2) (pos 0)) size (known_in s.places)) _ (λ _.
      go (check_number rule.HelperArgument (arg 4)) _ (λ _. both_answered Number)))))))
  call_formed (Some Reserve) =
      go (check_ring (arg 1)) _ (λ ring. go (check_record_size (arg 2)) _ (λ size. go (check_number rule.HelperArgument (arg 3)) _ (λ _.
      past_test (BothFormed (unit + 1)) (is_full s.held) rule.TooManyReferences _ (λ room.
      let k : IsFormed (unit + 1) (after_reserve unit ring size s) = form_reserved unit ring size s room h in (k, k)))))
  call_formed (Some Submit) = go (check_record_start (arg 1)) _ (λ id. go (check_number rule.HelperArgument (arg 2)) _ (λ _. both_given_back id))
  call_formed (Some Discard) = go (check_record_start (arg 1)) _ (λ id. go (check_number rule.HelperArgument (arg 2)) _ (λ _. both_given_back id))
  call_formed (Some Query) = go (check_ring (arg 1)) _ (λ _. go (check_number rule.HelperArgument (arg 2)) _ (λ _. both_answered Number))

  compared_formed : (v w : Abs) → Next (check_branch None v w s)
  compared_formed v w =
      go (check_readable v) _ (λ _. go (check_readable w) _ (λ _. go (check_number rule.PointerCompared v) _ (λ _. go (check_number rule.PointerCompared w) _ (λ _. both_kept))))

  null_formed : (id : ℕ) → IsFormed (unit + 1) (null_state id s)
  null_formed id = form_without _ id _ s kept

  there_formed : (id : ℕ) → IsFormed (unit + 1) (there_state id s)
  there_formed id = form_tested _ id _ s kept

  branch_formed : (test : Option NullTest) (v w : Abs) → Next (check_branch test v w s)
  branch_formed None v w = compared_formed v w
  branch_formed (Some JumpsIfNull) (Perhaps id) w = (there_formed id, null_formed id)
  branch_formed (Some JumpsIfNull) Unreadable w = tt
  branch_formed (Some JumpsIfNull) Number w = compared_formed Number w
  branch_formed (Some JumpsIfNull) (Known n) w = compared_formed (Known n) w
  branch_formed (Some JumpsIfNull) (Ctx o) w = compared_formed (Ctx o) w
  branch_formed (Some JumpsIfNull) (Stack o) w = compared_formed (Stack o) w
  branch_formed (Some JumpsIfNull) (Ring n) w = compared_formed (Ring n) w
  branch_formed (Some JumpsIfNull) (Record n o) w = compared_formed (Record n o) w
  branch_formed (Some JumpsIfThere) (Perhaps id) w = (null_formed id, there_formed id)
  branch_formed (Some JumpsIfThere) Unreadable w = tt
  branch_formed (Some JumpsIfThere) Number w = compared_formed Number w
  branch_formed (Some JumpsIfThere) (Known n) w = compared_formed (Known n) w
  branch_formed (Some JumpsIfThere) (Ctx o) w = compared_formed (Ctx o) w
  branch_formed (Some JumpsIfThere) (Stack o) w = compared_formed (Stack o) w
  branch_formed (Some JumpsIfThere) (Ring n) w = compared_formed (Ring n) w
  branch_formed (Some JumpsIfThere) (Record n o) w = compared_formed (Record n o) w

  given_formed : (dst : Reg) (v : Abs) → Next (check_assign dst v s)
  given_formed dst v = go (check_writable dst) _ (λ _. both_put dst v)

  copied_formed : (dst src : Reg) → Next (check_copy dst src s)
  copied_formed dst src = go (check_writable dst) _ (λ _. go (check_readable (arg src.number)) _ (λ _. both_put dst _))

  converted_formed : (insn : Insn) (dst src : Reg) → Next (check_convert insn dst src s)
  converted_formed insn dst src = go (check_writable dst) _ (λ _. go (check_number rule.PointerArithmetic (arg src.number)) _ (λ _. both_put dst _))

  altered_formed : (insn : Insn) (dst : Reg) → Next (check_unary insn dst s)
  altered_formed insn dst = go (check_writable dst) _ (λ _. go (check_number rule.PointerArithmetic (arg dst.number)) _ (λ _. both_put dst _))

  operated_formed : (direction : Option Direction) (insn : Insn) (dst : Reg) (operand : Operand) → Next (check_binary direction insn dst operand s)
  operated_formed direction insn dst operand =
      go (check_writable dst) _ (λ _. go (check_readable (arg dst.number)) _ (λ _. go (check_readable (operand_value operand s)) _ (λ _.
      go (check_arithmetic direction insn (arg dst.number) (operand_value operand s)) _ (λ v. both_put dst v))))

  ring_formed : (dst : Reg) (ring : ℕ) → Next (check_ring_load limits dst ring s)
  ring_formed dst ring = go (check_writable dst) _ (λ _. go (refused_if (nat_le limits.rings ring) rule.HelperArgument) _ (λ _. both_put dst (Ring ring)))

  loaded_formed : (dst base : Reg) (by : ℤ) (len : ℕ) → Next (check_load limits dst base by len s)
  loaded_formed dst base by len =
      go (check_writable dst) _ (λ _. go (check_tested (arg base.number)) _ (λ _. go (check_inside limits s.held (arg base.number) by len) _ (λ _.
      go (check_loaded (byte_behind (arg base.number) by) len (known_in s.places)) _ (λ v. both_put dst v))))

  stored_formed : (base : Reg) (by : ℤ) (len : ℕ) (v : Abs) → Next (check_store limits base by len v s)
  stored_formed base by len v =
      go (check_tested (arg base.number)) _ (λ _. go (check_not_context (arg base.number)) _ (λ _. go (check_inside limits s.held (arg base.number) by len) _ (λ _.
      go (check_stored (byte_behind (arg base.number) by) len v s.places) _ (λ places. both_placed places))))

  ended_formed : Next (check_exit s)
  ended_formed = go (refused_if (not (is_empty s.held)) rule.ReferenceLeft) _ (λ _. go (check_number rule.ResultNotNumber (arg 0)) _ (λ _. both_kept))

  step_formed : (insn : Insn) → Next (abstract_step limits unit insn s)
  unfolding abstract_step
  step_formed (Move width dst (Immediate k)) = given_formed dst _
  step_formed (Move W64 dst (Register src)) = copied_formed dst src
  step_formed (Move W32 dst (Register src)) = converted_formed _ dst src
  step_formed (MoveExtended32 low dst src) = converted_formed _ dst src
  step_formed (MoveExtended64 low dst src) = converted_formed _ dst src
  step_formed (Negate width dst) = altered_formed _ dst
  step_formed (Reorder order width dst) = altered_formed _ dst
  step_formed (Division width op sign dst operand) = operated_formed None _ dst operand
  step_formed (Binary width op dst operand) = operated_formed (direction_of width op) _ dst operand
  step_formed (LoadNumber dst n) = given_formed dst (Known n)
  step_formed (LoadRing dst ring) = ring_formed dst ring
  step_formed (Load size dst base by) = loaded_formed dst base by (byte_count size)
  step_formed (LoadSigned size dst base by) = loaded_formed dst base by (signed_byte_count size)
  step_formed (StoreImmediate size base by k) = stored_formed base by (byte_count size) Number
  step_formed (StoreRegister size base by src) = stored_formed base by (byte_count size) (arg src.number)
  step_formed (Branch width condition dst operand distance) = branch_formed (null_test_of width condition operand) _ _
  step_formed (Jump distance) = both_kept
  step_formed (JumpFar distance) = both_kept
  step_formed (Call helper) = call_formed (helper_of helper)
  step_formed Exit = ended_formed

pub step_forms : StepKeepsForm
step_forms limits unit insn s e h ok later le =
    let formed : BothFormed (unit + 1) e = subst (GivesFormed (unit + 1)) ok (step_formed limits unit s h insn) in
    (form_later later le formed.0, form_later later le formed.1)
