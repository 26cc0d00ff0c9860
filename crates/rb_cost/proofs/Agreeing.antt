-- All valid annotations agree on what instructions request and what is held, so they have one cost.
use Rattle.std.proofs.Common.{◌≡◌, ℕ, ◌+◌, ◌≤◌, [], ◌∷◌, refl, sym, ◌∙◌, ap, subst, cond, List, length, Option, Some, None, Ok, arith}
use Rattle.std.specs.Prelude.{sum_by, count_by}
use Rattle.std.proofs.lemmas.List.Sums.{sum_by-cons, sum_by-le-sum_by}
use Rattle.rb_insn.specs.declared.insn.Insn.{Insn}
use Rattle.rb_insn.specs.declared.insn.Insn.TheVariants.{Call}
use Rattle.rb_program.specs.Program.{unit_count, slot_at}
use Rattle.rb_program.specs.Shape.{IsInstructionStart}
use Rattle.rb_program.proofs.ShapeLaws.{begins-lt}
use Rattle.rb_verifier.specs.declared.helper.Helper.{Helper}
use Rattle.rb_verifier.specs.declared.helper.Helper.TheVariants.{Output, Reserve, Submit, Discard, Query}
use Rattle.rb_verifier.specs.declared.limits.Limits.{Limits}
use Rattle.rb_verifier.specs.declared.state.AbsState.{AbsState}
use Rattle.rb_verifier.specs.declared.state.Effect.{Effect}
use Rattle.rb_verifier.specs.declared.value.Abs.{Abs}
use Rattle.rb_verifier.specs.declared.value.Abs.TheVariants.{Ring, Known}
use Rattle.rb_verifier.specs.AbstractValues.{BelowValue}
use Rattle.rb_verifier.specs.AbstractStates.{Below, value_in}
use Rattle.rb_verifier.specs.HelperChecks.{helper_of, check_call}
use Rattle.rb_verifier.specs.VerifierChecks.{abstract_step}
use Rattle.rb_verifier.specs.Annotation.{Annotation, HoldsAt, IsValid, IsLeast}
use Rattle.rb_cost.specs.declared.cost.Cost.{Cost}
use Rattle.rb_cost.specs.declared.cost.RingCost.{RingCost}
use Rattle.rb_cost.specs.Paths.{IsMost}
use Rattle.rb_cost.specs.Requests.{record_of, asked_of_helper, asked_by, asked_in, asked_at, is_on, bytes_on, is_of_ring, held_span}
use Rattle.rb_cost.specs.Cost.{IsRingCost, IsCostUnder}
use Rattle.rb_cost.proofs.Sizes.{AreKnown, known-record_of, reserve_known, output_ring_known}

-- equal functions have the same maximum
pub most_same : {X : Type 0} {A : X → Type 0} {f g : X → ℕ} {n : ℕ} → ((x : X) → A x → f x ≡ g x) → IsMost A f n → IsMost A g n
most_same {X} {A} {f} {g} {n} same h = record {
  reached = let r = h.reached in (r.0, r.1, sym (same r.0 r.1) ∙ r.2);
  most = λ x is. subst (λ m. m ≤ n) (same x is) (h.most x is);
}

-- the sum of ones is the length
pub total-steps : (path : List ℕ) → sum_by (λ unit. 1) path ≡ length path
total-steps [] = refl
total-steps (unit ∷ path) = let more : sum_by (λ u. 1) (unit ∷ path) ≡ 1 + sum_by (λ u. 1) path = sum_by-cons (λ u. 1) unit path in let rest : sum_by (λ u. 1) path ≡ length path = total-steps path in omega arith

pub sum_by-same : {X : Type 0} (f g : X → ℕ) (xs : List X) → ((x : X) → f x ≡ g x) → sum_by f xs ≡ sum_by g xs
sum_by-same f g xs same =
    let below : sum_by f xs ≤ sum_by g xs = sum_by-le-sum_by f g xs (λ x. let e = same x in omega arith) in
    let above : sum_by g xs ≤ sum_by f xs = sum_by-le-sum_by g f xs (λ x. let e = same x in omega arith) in
    omega arith

-- a value below a known ring, or a known number, is that ring or number
known_below : (v w x y : Abs) → BelowValue v w → BelowValue x y → AreKnown w y → record_of v x ≡ record_of w y
known_below v w x y below_ring below_len k =
    let ring : v ≡ Ring k.ring = subst (BelowValue v) k.ring_is below_ring in
    let len : x ≡ Known k.len = subst (BelowValue x) k.len_is below_len in
    known-record_of v x (record { ring = k.ring; len = k.len; ring_is = ring; len_is = len }) ∙ sym (known-record_of w y k)

module _ (limits : Limits) (unit : ℕ) (s t : AbsState) (e : Effect) (below : Below s t) where
  helper_same : (helper : Option Helper) → check_call limits unit helper t ≡ Ok e → asked_of_helper helper s ≡ asked_of_helper helper t
  helper_same None ok = refl
  helper_same (Some Output) ok = known_below (value_in s 1) (value_in t 1) (value_in s 3) (value_in t 3) (below.values 1) (below.values 3) (output_ring_known limits unit t e ok)
  helper_same (Some Reserve) ok = known_below (value_in s 1) (value_in t 1) (value_in s 2) (value_in t 2) (below.values 1) (below.values 2) (reserve_known limits unit t e ok).0
  helper_same (Some Submit) ok = refl
  helper_same (Some Discard) ok = refl
  helper_same (Some Query) ok = refl

  insn_same : (insn : Insn) → abstract_step limits unit insn t ≡ Ok e → asked_by insn s ≡ asked_by insn t
  unfolding abstract_step
  insn_same (Call helper) ok = helper_same (helper_of helper) ok
  insn_same insn ok = refl

module _ (limits : Limits) (program : List Insn) (a b : Annotation) (least : IsLeast limits program a) (valid : IsValid limits program b) where
  below_at : (unit : ℕ) (insn : Insn) → slot_at program unit ≡ Some insn → Below (a unit) (b unit)
  below_at unit insn begins = least.least b valid unit insn (begins-lt program unit insn begins) begins

  -- the same records are requested
  pub asked_same : (unit : ℕ) → asked_at program a unit ≡ asked_at program b unit
  asked_same unit = by_slot (slot_at program unit) refl
    where
      by_slot : (slot : Option Insn) → slot_at program unit ≡ slot → asked_at program a unit ≡ asked_at program b unit
      by_slot None none = subst (λ slot. asked_in slot (a unit) ≡ asked_in slot (b unit)) (sym none) refl
      by_slot (Some insn) begins =
          let held : HoldsAt limits b (unit_count program) unit insn = valid.each unit insn (begins-lt program unit insn begins) begins in
          subst (λ slot. asked_in slot (a unit) ≡ asked_in slot (b unit)) (sym begins) (insn_same limits unit (a unit) (b unit) held.effect (below_at unit insn begins) insn held.checks)

  -- and the same references are held
  pub held_same : (unit : ℕ) → IsInstructionStart program unit → (a unit).held ≡ (b unit).held
  held_same unit there = (below_at unit there.0 there.1).held

  ring_cost_same : (ring : ℕ) (cost : RingCost) → IsRingCost program a ring cost → IsRingCost program b ring cost
  ring_cost_same ring cost h = record {
    records = most_same (λ path is. sum_by-same (λ unit. cond (is_on ring (asked_at program a unit)) 1 0) (λ unit. cond (is_on ring (asked_at program b unit)) 1 0) path (λ unit. ap (λ asked. cond (is_on ring asked) 1 0) (asked_same unit))) h.records;
    bytes = most_same (λ path is. sum_by-same (λ unit. bytes_on ring (asked_at program a unit)) (λ unit. bytes_on ring (asked_at program b unit)) path (λ unit. ap (bytes_on ring) (asked_same unit))) h.bytes;
    held_records = most_same (λ unit there. ap (count_by (is_of_ring ring)) (held_same unit there)) h.held_records;
    held_bytes = most_same (λ unit there. ap (sum_by (held_span ring)) (held_same unit there)) h.held_bytes;
  }

  pub cost_same : (rings : ℕ) (cost : Cost) → IsCostUnder program a rings cost → IsCostUnder program b rings cost
  cost_same rings cost h = record {
    steps = h.steps;
    calls = h.calls;
    count = h.count;
    rings = λ ring lt. ring_cost_same ring _ (h.rings ring lt);
  }
