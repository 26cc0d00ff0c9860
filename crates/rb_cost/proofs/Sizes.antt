-- The records of a valid annotation have bounded lengths: those that are held, and those that an instruction requests.
use Rattle.std.proofs.Common.{◌≡◌, ℕ, ◌+◌, ◌^◌, ◌<◌, ◌≤◌, refl, sym, subst, Bool, true, false, cond, List, [], ◌∷◌, Ok, Option, Some, None, arith}
use Rattle.std.specs.Prelude.{pos, find, not, IfSome, ◌+ℤ◌}
use Rattle.rb_insn.specs.declared.insn.Insn.{Insn}
use Rattle.rb_insn.specs.declared.insn.Insn.TheVariants.{Call}
use Rattle.rb_program.specs.Program.{unit_count, slot_at}
use Rattle.rb_program.specs.Edges.{IsReached, start, by_edge}
use Rattle.rb_program.specs.Shape.{EdgesLeadForward, AllIsReached}
use Rattle.rb_program.proofs.ShapeLaws.{begins-lt}
use Rattle.rb_verifier.specs.declared.helper.Helper.{Helper}
use Rattle.rb_verifier.specs.declared.helper.Helper.TheVariants.{Output, Reserve, Submit, Discard, Query}
use Rattle.rb_verifier.specs.declared.limits.Limits.{Limits}
use Rattle.rb_verifier.specs.declared.references.Reference.{Reference}
use Rattle.rb_verifier.specs.declared.state.AbsState.{AbsState}
use Rattle.rb_verifier.specs.declared.state.Effect.{Effect}
use Rattle.rb_verifier.specs.declared.value.Abs.{Abs}
use Rattle.rb_verifier.specs.declared.value.Abs.TheVariants.{Unreadable, Number, Known, Ctx, Stack, Ring, Perhaps, Record}
use Rattle.rb_verifier.specs.Extents.{record_contains, reaches}
use Rattle.rb_verifier.specs.ValueChecks.{check_tested, check_inside, check_ring, check_part_pointer, check_known_size, check_record_size}
use Rattle.rb_verifier.specs.HelperChecks.{helper_of, check_call}
use Rattle.rb_verifier.specs.References.{has_id}
use Rattle.rb_verifier.specs.AbstractStates.{value_in}
use Rattle.rb_verifier.specs.Annotation.{Annotation, HoldsAt, IsValid}
use Rattle.rb_verifier.specs.VerifierChecks.{abstract_step}
use Rattle.rb_semantics.proofs.Checks.{passed, ring_passed, size_passed, record_size_passed, from_zero, in_stack}
use Rattle.rb_cost.specs.Requests.{asked_by, asked_in, asked_of_helper, asked_at, record_of}
use Rattle.rb_verifier.proofs.Laws.{both_hold}
use Rattle.rb_cost.specs.inner.Pass.{IsSmall}
use Rattle.rb_cost.proofs.KeptReferences.{AllHeld, NewHolds, NewOf, edge_keeps}

abbrev IsSmallReference : Reference → Type 0
IsSmallReference r = r.size ≤ 2 ^ 26

-- each record that is held has a bounded length
abbrev pub AreSmall : List Reference → Type 0
AreSmall held = AllHeld IsSmallReference (λ r h. h) held

small_found : (id : ℕ) (held : List Reference) → AreSmall held → IfSome (find (has_id id) held) IsSmallReference
small_found id [] h = tt
small_found id (r ∷ held) h =
    let rest : IfSome (find (has_id id) held) IsSmallReference = small_found id held h.1 in
    elim (has_id id r) as (λ b. IfSome (cond b (Some r) (find (has_id id) held)) IsSmallReference) [ true ↦ h.0 | false ↦ rest ]

-- a reservation has a bounded length
new_small : (unit : ℕ) (s : AbsState) (insn : Insn) → NewOf IsSmallReference (λ r h. h) unit s insn
new_small unit s (Call code) = by_helper (helper_of code)
  where
    by_helper : (called : Option Helper) → NewHolds IsSmallReference (λ r h. h) unit s called
    by_helper None = tt
    by_helper (Some Output) = tt
    by_helper (Some Reserve) = λ ring size first second. (record_size_passed (value_in s 2) size second).1
    by_helper (Some Submit) = tt
    by_helper (Some Discard) = tt
    by_helper (Some Query) = tt
new_small unit s insn = tt

-- at a unit to which a path leads
pub reached_small : (limits : Limits) (program : List Insn) (a : Annotation) → IsValid limits program a → EdgesLeadForward program → {unit : ℕ} → IsReached program unit → unit < unit_count program → AreSmall (a unit).held
reached_small limits program a valid forward start inside = subst AreSmall (valid.entry inside).held tt
reached_small limits program a valid forward {unit} (by_edge {from} along reached edge) inside =
    let earlier : from < unit = (forward from along unit edge).0 in
    let inside_from : from < unit_count program = omega arith in
    edge_keeps IsSmallReference (λ r h. h) limits program a valid from unit along edge inside_from inside (new_small from (a from) edge.insn) (reached_small limits program a valid forward reached inside_from)

-- ---- and so have the records that an instruction requests

not_false : (b : Bool) → not b ≡ false → b ≡ true
not_false true e = refl
not_false false e = absurd (cc)

-- the number of bytes within a part is bounded
reach_bounded : (limits : Limits) (held : List Reference) (v : Abs) (len : ℕ) → limits.ctx_len ≤ 65536 → AreSmall held → reaches limits held v (pos 0) len ≡ true → len ≤ 2 ^ 26
reach_bounded limits held (Ctx o) len context h is = let range = from_zero (o +ℤ pos 0) len limits.ctx_len is in let fits : range.at + len ≤ limits.ctx_len = range.fits in omega arith
reach_bounded limits held (Stack o) len context h is = let range = in_stack (o +ℤ pos 0) len is in let fits : range.at + len ≤ 512 = range.fits in omega arith
reach_bounded limits held (Record id o) len context h is = in_record (find (has_id id) held) (small_found id held h) is
  where
    in_record : (found : Option Reference) → IfSome found IsSmallReference → record_contains found (o +ℤ pos 0) len ≡ true → len ≤ 2 ^ 26
    in_record None k is = absurd (cc)
    in_record (Some r) k is = let range = from_zero (o +ℤ pos 0) len r.size is in let fits : range.at + len ≤ r.size = range.fits in omega arith
reach_bounded limits held Unreadable len context h is = absurd (cc)
reach_bounded limits held Number len context h is = absurd (cc)
reach_bounded limits held (Known n) len context h is = absurd (cc)
reach_bounded limits held (Ring r) len context h is = absurd (cc)
reach_bounded limits held (Perhaps i) len context h is = absurd (cc)

-- the ring and the length of a record are known, and the length is bounded
pub record AreKnown (ring_value len_value : Abs) : Type 0 where
  pub ring : ℕ
  pub len : ℕ
  pub ring_is : ring_value ≡ Ring ring
  pub len_is : len_value ≡ Known len

pub known-record_of : (v w : Abs) (k : AreKnown v w) → record_of v w ≡ Some (record { ring = k.ring; len = k.len })
known-record_of v w k = subst (λ x. record_of x w ≡ Some (record { ring = k.ring; len = k.len })) (sym k.ring_is) (subst (λ y. record_of (Ring k.ring) y ≡ Some (record { ring = k.ring; len = k.len })) (sym k.len_is) refl)

module _ (limits : Limits) (unit : ℕ) (s : AbsState) (e : Effect) where
  pub reserve_known : check_call limits unit (Some Reserve) s ≡ Ok e → (k : AreKnown (value_in s 1) (value_in s 2)) × (k.len ≤ 2 ^ 26)
  reserve_known ok =
      let one = both_hold (check_ring (value_in s 1)) _ _ ok in
      let two = both_hold (check_record_size (value_in s 2)) _ _ one.others in
      let size = record_size_passed (value_in s 2) two.value two.first in
      (record { ring = one.value; len = two.value; ring_is = ring_passed (value_in s 1) one.value one.first; len_is = size.0 }, size.1)

  -- the checks of an output that succeeded, and what they established
  record OutputChecks : Type 0 where
    known : AreKnown (value_in s 1) (value_in s 3)
    inside : reaches limits s.held (value_in s 2) (pos 0) known.len ≡ true

  output_checks : check_call limits unit (Some Output) s ≡ Ok e → OutputChecks
  output_checks ok =
      let one = both_hold (check_ring (value_in s 1)) _ _ ok in
      let two = both_hold (check_tested (value_in s 2)) _ _ one.others in
      let three = both_hold (check_part_pointer (value_in s 2)) _ _ two.others in
      let four = both_hold (check_known_size (value_in s 3)) _ _ three.others in
      let five = both_hold (check_inside limits s.held (value_in s 2) (pos 0) four.value) _ _ four.others in
      record {
        known = record { ring = one.value; len = four.value; ring_is = ring_passed (value_in s 1) one.value one.first; len_is = size_passed (value_in s 3) four.value four.first };
        inside = not_false _ (passed _ _ five.value five.first);
      }

  pub output_ring_known : check_call limits unit (Some Output) s ≡ Ok e → AreKnown (value_in s 1) (value_in s 3)
  output_ring_known ok = (output_checks ok).known

  pub output_known : limits.ctx_len ≤ 65536 → AreSmall s.held → check_call limits unit (Some Output) s ≡ Ok e → (k : AreKnown (value_in s 1) (value_in s 3)) × (k.len ≤ 2 ^ 26)
  output_known context small ok =
      let checks = output_checks ok in
      (checks.known, reach_bounded limits s.held (value_in s 2) checks.known.len context small checks.inside)

  small_known : (v w : Abs) → (k : AreKnown v w) × (k.len ≤ 2 ^ 26) → IsSmall (record_of v w)
  small_known v w (k, bounded) = subst IsSmall (sym (known-record_of v w k)) bounded

  helper_small : limits.ctx_len ≤ 65536 → AreSmall s.held → (helper : Option Helper) → check_call limits unit helper s ≡ Ok e → IsSmall (asked_of_helper helper s)
  helper_small context small None ok = tt
  helper_small context small (Some Output) ok = small_known (value_in s 1) (value_in s 3) (output_known context small ok)
  helper_small context small (Some Reserve) ok = small_known (value_in s 1) (value_in s 2) (reserve_known ok)
  helper_small context small (Some Submit) ok = tt
  helper_small context small (Some Discard) ok = tt
  helper_small context small (Some Query) ok = tt

  insn_small : limits.ctx_len ≤ 65536 → AreSmall s.held → (insn : Insn) → abstract_step limits unit insn s ≡ Ok e → IsSmall (asked_by insn s)
  unfolding abstract_step
  insn_small context small (Call helper) ok = helper_small context small (helper_of helper) ok
  insn_small context small insn ok = tt

-- the record that the instruction at a unit requests has a bounded length
pub asked_small : (limits : Limits) (program : List Insn) (a : Annotation) → limits.ctx_len ≤ 65536 → EdgesLeadForward program → AllIsReached program → IsValid limits program a → (unit : ℕ) → IsSmall (asked_at program a unit)
asked_small limits program a context forward reached valid unit = by_slot (slot_at program unit) refl
  where
    by_slot : (slot : Option Insn) → slot_at program unit ≡ slot → IsSmall (asked_at program a unit)
    by_slot None none = subst (λ slot. IsSmall (asked_in slot (a unit))) (sym none) tt
    by_slot (Some insn) begins =
        let inside : unit < unit_count program = begins-lt program unit insn begins in
        let held : HoldsAt limits a (unit_count program) unit insn = valid.each unit insn inside begins in
        let small : AreSmall (a unit).held = reached_small limits program a valid forward (reached unit (insn, begins)) inside in
        subst (λ slot. IsSmall (asked_in slot (a unit))) (sym begins) (insn_small limits unit (a unit) held.effect context small insn held.checks)
