-- Every state that arrives under the least annotation lies below the state of every valid one; so a refusal rules out
-- all annotations.
use Rattle.std.proofs.Common.{◌≡◌, ⊎_elim, ℕ, ◌<◌, ◌≤◌, refl, sym, ◌∙◌, subst, List, Result, Ok, Err, Some, arith}
use Rattle.std.proofs.lemmas.Bool.{cases_lt}
use Rattle.rb_insn.specs.declared.insn.Insn.{Insn}
use Rattle.rb_program.specs.Program.{unit_count, slot_at}
use Rattle.rb_program.specs.Edges.{Edge, Next, Target, HasEdge}
use Rattle.rb_program.specs.Shape.{EachIsEntered}
use Rattle.rb_verifier.specs.declared.limits.Limits.{Limits}
use Rattle.rb_verifier.specs.declared.rule.Rule.{Rule}
use Rattle.rb_verifier.specs.declared.state.AbsState.{AbsState}
use Rattle.rb_verifier.specs.declared.state.Effect.{Effect}
use Rattle.rb_verifier.specs.AbstractStates.{Below, EffectBelow, entry_state}
use Rattle.rb_verifier.specs.VerifierChecks.{abstract_step}
use Rattle.rb_verifier.specs.StepOrder.{ResultBelow}
use Rattle.rb_verifier.proofs.Laws.{below_trans, step_below}
use Rattle.rb_verifier.specs.Annotation.{Annotation, along_edge, HoldsAt, IsValidBefore, IsLeastBefore, Arrives, at_entry, by_edge, IsLeastAbove, HaveDifferent, HasNoValid}

-- the states along each edge keep the order
along_below : (along : Edge) {e f : Effect} → EffectBelow e f → Below (along_edge along e) (along_edge along f)
along_below Next h = h.next
along_below Target h = h.jump

effects_below : {m n : Result Effect Rule} {e f : Effect} → m ≡ Ok e → n ≡ Ok f → ResultBelow EffectBelow m n → EffectBelow e f
effects_below {m} {n} {e} {f} p q h =
    subst (λ x. ResultBelow EffectBelow (Ok e) x) q (subst (λ x. ResultBelow EffectBelow x n) p h)

no_refusal_below : {m n : Result Effect Rule} {r : Rule} {f : Effect} → m ≡ Err r → n ≡ Ok f → ResultBelow EffectBelow m n → ⊥
no_refusal_below {m} {n} {r} {f} p q h =
    subst (λ x. ResultBelow EffectBelow (Err r) x) q (subst (λ x. ResultBelow EffectBelow x n) p h)

module _ {limits : Limits} {p : List Insn} where
  -- an annotation that is valid below a bound is valid below each lower bound
  pub valid_weaken : {a : Annotation} {v : ℕ} (u : ℕ) → u ≤ v → IsValidBefore limits p a v → IsValidBefore limits p a u
  valid_weaken {a} {v} u le h = record {
    entry = λ k. h.entry (omega arith);
    each = λ unit i lt at.
        let at_v = h.each unit i (omega arith) at in
        record { effect = at_v.effect; checks = at_v.checks; edges = λ along to e k. at_v.edges along to e (omega arith) };
  }

  -- a state that arrives at a unit is below the state there of each annotation that is valid up to it
  pub arrives_below : {a b : Annotation} {u w t : ℕ} {s : AbsState} → IsLeastBefore limits p a u → IsValidBefore limits p b w → u ≤ t → t < w → Arrives limits p a u t s → Below s (b t)
  arrives_below {a} {b} {u} {w} {t} {s} l h ut tw (at_entry z e) =
      subst (λ x. Below x (b t)) (sym e) (subst (λ x. Below entry_state (b x)) (sym z) (h.entry (omega arith)))
  arrives_below {a} {b} {u} {w} {t} {s} l h ut tw (by_edge from i e along lt at checks to is) =
      let below_from : Below (a from) (b from) = l.least b (valid_weaken u (omega arith) h) from i lt at in
      let there : HoldsAt limits b w from i = h.each from i (omega arith) at in
      let effects : EffectBelow e there.effect = effects_below checks there.checks (step_below limits from i (a from) (b from) below_from) in
      subst (λ x. Below x (b t)) (sym is) (below_trans (along_below along effects) (there.edges along t to tw))

  -- if two states with different references arrive, no annotation is valid
  pub no_valid_differ : {a : Annotation} {u : ℕ} → IsLeastBefore limits p a u → u < unit_count p → HaveDifferent (Arrives limits p a u u) → HasNoValid limits p
  no_valid_differ {a} {u} l lt d b valid =
      let one : Below d.one (b u) = arrives_below l valid (omega arith) lt d.one_is in
      let other : Below d.other (b u) = arrives_below l valid (omega arith) lt d.other_is in
      d.differ (one.held ∙ sym other.held)

  -- if a check fails at the least state, no annotation is valid
  pub no_valid_check : {a : Annotation} {u : ℕ} {s : AbsState} {i : Insn} {r : Rule} → IsLeastBefore limits p a u → u < unit_count p → IsLeastAbove (Arrives limits p a u u) s → slot_at p u ≡ Some i → abstract_step limits u i s ≡ Err r → HasNoValid limits p
  no_valid_check {a} {u} {s} {i} {r} l lt above at e b valid =
      let below : Below s (b u) = above.least (b u) (λ x k. arrives_below l valid (omega arith) lt k) in
      no_refusal_below e (valid.each u i lt at).checks (step_below limits u i s (b u) below)

  -- some state arrives at each instruction
  pub something_arrives : {a : Annotation} {u : ℕ} → EachIsEntered p → IsLeastBefore limits p a u → (i : Insn) → slot_at p u ≡ Some i → (s : AbsState) × Arrives limits p a u u s
  something_arrives {a} {u} entered l i at = ⊎_elim later first (cases_lt 0 u)
    where
      first : u ≤ 0 → (s : AbsState) × Arrives limits p a u u s
      first z = (entry_state, at_entry (omega arith) refl)

      later : 0 < u → (s : AbsState) × Arrives limits p a u u s
      later after =
          let edge = entered u (i, at) after in
          let e : HasEdge p edge.0 edge.1 u = edge.2 in
          let from_below : edge.0 < u = edge.3 in
          let there : HoldsAt limits a u edge.0 e.insn = l.valid.each edge.0 e.insn from_below e.begins in
          (along_edge edge.1 there.effect, by_edge edge.0 e.insn there.effect edge.1 from_below e.begins there.checks e.leads_to refl)
