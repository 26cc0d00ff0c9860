-- The full rules accept all that the plain rules accept, with the same effect.
use Rattle.std.proofs.Common.{◌≡◌, ℕ, ◌+◌, ℤ, pos, false, Option, Some, None, Ok, refl, sym, ap, ◌∙◌, subst, ⊎_elim}
use Rattle.std.proofs.lemmas.Bool.{cases_lt}
use Rattle.rb_insn.specs.declared.insn.Insn.{Insn}
use Rattle.rb_insn.specs.declared.insn.Insn.TheVariants.{Binary, Division, Negate, Move, MoveExtended32, MoveExtended64, Reorder, Jump, JumpFar, Branch, Call, Exit, LoadNumber, LoadRing, Load, LoadSigned, StoreImmediate, StoreRegister}
use Rattle.rb_insn.specs.declared.reg.Reg.{Reg}
use Rattle.rb_insn.specs.Sizes.{byte_count, signed_byte_count}
use Rattle.rb_verifier.specs.declared.helper.Helper.{Helper}
use Rattle.rb_verifier.specs.declared.helper.Helper.TheVariants as helper
use Rattle.rb_verifier.specs.declared.limits.Limits.{Limits}
use Rattle.rb_verifier.specs.declared.rule.Rule.TheVariants as rule
use Rattle.rb_verifier.specs.declared.state.AbsState.{AbsState}
use Rattle.rb_verifier.specs.declared.state.Effect.{Effect}
use Rattle.rb_verifier.specs.declared.value.Abs.{Abs}
use Rattle.rb_verifier.specs.declared.value.Abs.TheVariants.{Unreadable, Number, Known, Ctx, Stack, Ring, Perhaps, Record}
use Rattle.rb_verifier.specs.ValueChecks.{◌>>=◌, refused_if, check_tested, check_not_context, check_inside, check_number, check_ring, check_part_pointer, check_known_size}
use Rattle.rb_verifier.specs.HelperChecks.{helper_of, check_call, check_output}
use Rattle.rb_verifier.specs.StackPlaces.{touches, whole_place}
use Rattle.rb_verifier.specs.KeptPointers.{all_data, known_in, listed_places, with_data, may_keep, byte_behind, check_data, check_filled, check_loaded, check_stored}
use Rattle.rb_verifier.specs.AbstractStates.{value_in}
use Rattle.rb_verifier.specs.VerifierChecks.{abstract_step, check_load, check_store}
use Rattle.rb_verifier.proofs.Laws.{known-listed, known-past, both_hold}
use Rattle.rb_verifier.proofs.KeptPlaces.{any_place-false, not_kept, listed_same, with_data-data}
use Rattle.rb_semantics.specs.PlainPrograms.{plain_load, plain_store, plain_output, plain_call, plain_step, HoldsPlainly, PlainAnnotationsAreValid}

-- in all-data places, each place has data
data_known : (place : ℕ) → known_in all_data place ≡ Number
data_known place = ⊎_elim (λ lt. known-listed (λ place. Number) place lt) (λ le. known-past (λ place. Number) place le) (cases_lt place 64)

none_kept : (at len : ℕ) → may_keep at len (known_in all_data) ≡ false
none_kept at len = any_place-false _ (at + len) (λ place lt. not_kept (touches at len place) (known_in all_data place) (data_known place))

data_checked : (byte : Option ℕ) (len : ℕ) → check_data byte len (known_in all_data) ≡ Ok tt
data_checked None len = refl
data_checked (Some at) len = ap (λ b. refused_if b rule.Unreadable) (none_kept at len)

data_loaded : (byte : Option ℕ) (len : ℕ) → check_loaded byte len (known_in all_data) ≡ Ok Number
data_loaded None len = refl
data_loaded (Some at) len = of_place (whole_place at len)
  where
    of_place : (place : Option ℕ) → check_filled place at len (known_in all_data) ≡ Ok Number
    of_place (Some place) = ap Ok (data_known place)
    of_place None = ap (λ m. m >>= (λ _. Ok Number)) (data_checked (Some at) len)

data_left : (at len : ℕ) → listed_places (with_data at len (known_in all_data)) ≡ all_data
data_left at len = listed_same (with_data at len (known_in all_data)) (λ place. Number) (λ place lt. with_data-data at len (known_in all_data) place (data_known place))

data_stored : (byte : Option ℕ) (len : ℕ) (v : Abs) (unit : Unit {0}) → check_number rule.PointerStored v ≡ Ok unit → check_stored byte len v all_data ≡ Ok all_data
data_stored None len v unit e = ap (λ m. m >>= (λ _. Ok all_data)) e
data_stored (Some at) len Number unit e = ap Ok (data_left at len)
data_stored (Some at) len (Known n) unit e = ap Ok (data_left at len)
data_stored (Some at) len Unreadable unit e = absurd (cc)
data_stored (Some at) len (Ctx o) unit e = absurd (cc)
data_stored (Some at) len (Stack o) unit e = absurd (cc)
data_stored (Some at) len (Ring n) unit e = absurd (cc)
data_stored (Some at) len (Perhaps n) unit e = absurd (cc)
data_stored (Some at) len (Record n o) unit e = absurd (cc)

module _ (limits : Limits) (s : AbsState) (data_there : s.places ≡ all_data) where
  loads : (dst base : Reg) (by : ℤ) (len : ℕ) (e : Effect) → plain_load limits dst base by len s ≡ Ok e → check_load limits dst base by len s ≡ Ok e
  loads dst base by len e h =
      let given : check_loaded (byte_behind (value_in s base.number) by) len (known_in s.places) ≡ Ok Number = ap (λ places. check_loaded (byte_behind (value_in s base.number) by) len (known_in places)) data_there ∙ data_loaded (byte_behind (value_in s base.number) by) len in
      rw given h

  stores : (base : Reg) (by : ℤ) (len : ℕ) (v : Abs) (e : Effect) → plain_store limits base by len v s ≡ Ok e → check_store limits base by len v s ≡ Ok e
  stores base by len v e h =
      let x = value_in s base.number in
      let b1 = both_hold (check_tested x) _ e h in
      let b2 = both_hold (check_not_context x) _ e b1.others in
      let b3 = both_hold (check_inside limits s.held x by len) _ e b2.others in
      let b4 = both_hold (check_number rule.PointerStored v) _ e b3.others in
      let left : check_stored (byte_behind x by) len v s.places ≡ Ok s.places = subst (λ places. check_stored (byte_behind x by) len v places ≡ Ok places) (sym data_there) (data_stored (byte_behind x by) len v b4.value b4.first) in
      rw (b1.first, b2.first, b3.first, left) b4.others

  outputs : (e : Effect) → plain_output limits s ≡ Ok e → check_output limits s ≡ Ok e
  outputs e h =
      let x = value_in s 2 in
      let b1 = both_hold (check_ring (value_in s 1)) _ e h in
      let b2 = both_hold (check_tested x) _ e b1.others in
      let b3 = both_hold (check_part_pointer x) _ e b2.others in
      let b4 = both_hold (check_known_size (value_in s 3)) _ e b3.others in
      let b5 = both_hold (check_inside limits s.held x (pos 0) b4.value) _ e b4.others in
      let given : check_data (byte_behind x (pos 0)) b4.value (known_in s.places) ≡ Ok tt = ap (λ places. check_data (byte_behind x (pos 0)) b4.value (known_in places)) data_there ∙ data_checked (byte_behind x (pos 0)) b4.value in
      rw (b1.first, b2.first, b3.first, b4.first, b5.first, given) b5.others

  calls : (unit : ℕ) (called : Option Helper) (e : Effect) → plain_call limits unit called s ≡ Ok e → check_call limits unit called s ≡ Ok e
  calls unit (Some helper.Output) e h = outputs e h
  calls unit (Some helper.Reserve) e h = h
  calls unit (Some helper.Submit) e h = h
  calls unit (Some helper.Discard) e h = h
  calls unit (Some helper.Query) e h = h
  calls unit None e h = h

  steps : (unit : ℕ) (insn : Insn) (e : Effect) → plain_step limits unit insn s ≡ Ok e → abstract_step limits unit insn s ≡ Ok e
  unfolding abstract_step
  steps unit (Load size dst base by) e h = loads dst base by (byte_count size) e h
  steps unit (LoadSigned size dst base by) e h = loads dst base by (signed_byte_count size) e h
  steps unit (StoreImmediate size base by k) e h = stores base by (byte_count size) Number e h
  steps unit (StoreRegister size base by src) e h = stores base by (byte_count size) (value_in s src.number) e h
  steps unit (Call number) e h = calls unit (helper_of number) e h
  steps unit (Move width dst operand) e h = h
  steps unit (MoveExtended32 low dst src) e h = h
  steps unit (MoveExtended64 low dst src) e h = h
  steps unit (Negate width dst) e h = h
  steps unit (Reorder order width dst) e h = h
  steps unit (Division width op sign dst operand) e h = h
  steps unit (Binary width op dst operand) e h = h
  steps unit (LoadNumber dst n) e h = h
  steps unit (LoadRing dst ring) e h = h
  steps unit (Branch width condition dst operand distance) e h = h
  steps unit (Jump distance) e h = h
  steps unit (JumpFar distance) e h = h
  steps unit Exit e h = h

pub plain_valid : PlainAnnotationsAreValid
plain_valid limits program a p = record {
  entry = p.entry;
  each = λ unit insn lt there.
      let h : HoldsPlainly limits a _ unit insn = p.each unit insn lt there in
      record { effect = h.effect; checks = steps limits (a unit) (p.places unit) unit insn h.effect h.checks; edges = h.edges };
}
