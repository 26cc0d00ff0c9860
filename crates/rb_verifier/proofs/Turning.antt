-- One step of the pass: the least annotation grows by one unit, and the states that arrive at later units are merged.
use Rattle.std.proofs.Common.{◌≡◌, inl, inr, ⊎_elim, ℕ, ◌+◌, ◌<◌, refl, sym, ◌∙◌, ap, subst, List, [], ◌∷◌, ◌++◌, length, Ok, Some, None, arith}
use Rattle.std.proofs.Math.ListN.{get_or-append}
use Rattle.std.proofs.Math.Seq.{get_or-append_seam}
use Rattle.std.proofs.lemmas.Bool.{cases_eq}
use Rattle.rb_insn.specs.declared.insn.Insn.{Insn}
use Rattle.rb_program.specs.Program.{unit_count, slot_at}
use Rattle.rb_program.specs.Edges.{Edge, Next, Target, edge_target}
use Rattle.rb_program.specs.Shape.{EdgesLeadForward}
use Rattle.rb_verifier.specs.declared.limits.Limits.{Limits}
use Rattle.rb_verifier.specs.declared.state.AbsState.{AbsState}
use Rattle.rb_verifier.specs.declared.state.Effect.{Effect}
use Rattle.rb_verifier.specs.AbstractStates.{Below, entry_state}
use Rattle.rb_verifier.specs.VerifierChecks.{abstract_step}
use Rattle.rb_verifier.proofs.Laws.{below_refl}
use Rattle.rb_verifier.specs.declared.arrivals.Arrival.{Arrival}
use Rattle.rb_verifier.specs.Annotation.{Annotation, along_edge, HoldsAt, IsValidBefore, IsLeastBefore, Arrives, at_entry, by_edge, IsLeastAbove}
use Rattle.rb_verifier.specs.Annotation.{state_at}
use Rattle.rb_verifier.specs.inner.Sweep.{noted_at, IsArrivalOf, Flows}
use Rattle.rb_verifier.proofs.Least.{valid_weaken, arrives_below}
use Rattle.rb_verifier.proofs.Noting.{noted_iff, noted_flows, AndIf}

-- the states so far, and one more
abbrev pub more : List AbsState → AbsState → List AbsState
more states s = states ++ s ∷ []

agrees : (states : List AbsState) (s : AbsState) (v : ℕ) → v < length states → state_at (more states s) v ≡ state_at states v
agrees states s v lt = get_or-append states (s ∷ []) entry_state v lt

at_end : (states : List AbsState) (s : AbsState) (u : ℕ) → length states ≡ u → state_at (more states s) u ≡ s
at_end states s u e = subst (λ x. state_at (more states s) x ≡ s) e (get_or-append_seam states s [] entry_state)

-- an edge leads to a later unit
pub later_unit : (p : List Insn) → EdgesLeadForward p → (u : ℕ) (i : Insn) (along : Edge) (to : ℕ) → slot_at p u ≡ Some i → edge_target u i along ≡ Some to → u < to
later_unit p forward u i along to at leads_to = (forward u along to (record { insn = i; begins = at; leads_to = leads_to })).0

-- the step of an instruction
module _ (limits : Limits) (p : List Insn) (forward : EdgesLeadForward p) (states : List AbsState) (u : ℕ) (s : AbsState) (i : Insn) (e : Effect) (done : length states ≡ u) (l : IsLeastBefore limits p (state_at states) u) (lt : u < unit_count p) (at : slot_at p u ≡ Some i) (above : IsLeastAbove (Arrives limits p (state_at states) u u) s) (ok : abstract_step limits u i s ≡ Ok e) where
  abbrev Grown : Annotation
  Grown = state_at (more states s)

  old_at : (v : ℕ) → v < u → Grown v ≡ state_at states v
  old_at v k = agrees states s v (omega arith)

  new_at : Grown u ≡ s
  new_at = at_end states s u done

  -- the instruction at the new unit is this one
  same_insn : (v : ℕ) (j : Insn) → v ≡ u → slot_at p v ≡ Some j → j ≡ i
  same_insn v j eq k = let m : slot_at p u ≡ Some j = subst (λ x. slot_at p x ≡ Some j) eq k in let n : Some j ≡ Some i = sym m ∙ at in cc

  old_holds : (v : ℕ) (j : Insn) → v < u → slot_at p v ≡ Some j → HoldsAt limits Grown (u + 1) v j
  old_holds v j k at_j =
      let h : HoldsAt limits (state_at states) u v j = l.valid.each v j k at_j in
      record {
        effect = h.effect;
        checks = subst (λ x. abstract_step limits v j x ≡ Ok h.effect) (sym (old_at v k)) h.checks;
        edges = λ along to leads_to below. ⊎_elim
            (λ eq. subst (λ x. Below (along_edge along h.effect) (Grown x)) (sym eq) (subst (Below (along_edge along h.effect)) (sym new_at) (above.above _ (by_edge v j h.effect along k at_j h.checks (subst (λ x. edge_target v j along ≡ Some x) eq leads_to) refl))))
            (λ ne. let to_old : to < u = omega arith in subst (Below (along_edge along h.effect)) (sym (old_at to to_old)) (h.edges along to leads_to to_old))
            (cases_eq to u);
      }

  new_holds : HoldsAt limits Grown (u + 1) u i
  new_holds = record {
    effect = e;
    checks = subst (λ x. abstract_step limits u i x ≡ Ok e) (sym new_at) ok;
    edges = λ along to leads_to below. let f : u < to = later_unit p forward u i along to at leads_to in absurd (omega arith);
  }

  new_entry : Below entry_state (Grown 0)
  new_entry = ⊎_elim
      (λ z. subst (λ x. Below entry_state (Grown x)) z (subst (Below entry_state) (sym new_at) (above.above entry_state (at_entry z refl))))
      (λ ne. let pos : 0 < u = omega arith in subst (Below entry_state) (sym (old_at 0 pos)) (l.valid.entry pos))
      (cases_eq u 0)

  valid_more : IsValidBefore limits p Grown (u + 1)
  valid_more = record {
    entry = λ k. new_entry;
    each = λ v j k at_j. ⊎_elim
        (λ eq. subst (λ x. HoldsAt limits Grown (u + 1) x j) (sym eq) (subst (HoldsAt limits Grown (u + 1) u) (sym (same_insn v j eq at_j)) new_holds))
        (λ ne. old_holds v j (omega arith) at_j)
        (cases_eq v u);
  }

  pub least_more : IsLeastBefore limits p Grown (u + 1)
  least_more = record {
    valid = valid_more;
    least = λ b valid v j k at_j. ⊎_elim
        (λ eq. subst (λ x. Below (Grown x) (b x)) (sym eq) (subst (λ x. Below x (b u)) (sym new_at) (above.least (b u) (λ x a. arrives_below l valid (omega arith) (omega arith) a))))
        (λ ne. let v_old : v < u = omega arith in subst (λ x. Below x (b v)) (sym (old_at v v_old)) (l.least b (valid_weaken u (omega arith) valid) v j v_old at_j))
        (cases_eq v u);
  }

  -- the states that arrive at a later unit
  abbrev Later : ℕ → AbsState → Type 0
  Later t = AndIf (AndIf (Arrives limits p (state_at states) u t) (edge_target u i Target) t e.jump) (edge_target u i Next) t e.next

  along_new : (along : Edge) (t : ℕ) (x : AbsState) → edge_target u i along ≡ Some t → x ≡ along_edge along e → Later t x
  along_new Target t x leads_to is = inl (inr (leads_to, is))
  along_new Next t x leads_to is = inr (leads_to, is)

  from_new : (along : Edge) (t : ℕ) (x : AbsState) → edge_target u i along ≡ Some t → x ≡ along_edge along e → Arrives limits p Grown (u + 1) t x
  from_new along t x leads_to is = by_edge u i e along (omega arith) at (subst (λ y. abstract_step limits u i y ≡ Ok e) (sym new_at) ok) leads_to is

  later_arrives : (t : ℕ) (x : AbsState) → Later t x → Arrives limits p Grown (u + 1) t x
  later_arrives t x (inl (inl (at_entry z is))) = at_entry z is
  later_arrives t x (inl (inl (by_edge from j f along k at_j checks leads_to is))) = by_edge from j f along (omega arith) at_j (subst (λ y. abstract_step limits from j y ≡ Ok f) (sym (old_at from k)) checks) leads_to is
  later_arrives t x (inl (inr (leads_to, is))) = from_new Target t x leads_to is
  later_arrives t x (inr (leads_to, is)) = from_new Next t x leads_to is

  arrives_later : (t : ℕ) (x : AbsState) → Arrives limits p Grown (u + 1) t x → Later t x
  arrives_later t x (at_entry z is) = inl (inl (at_entry z is))
  arrives_later t x (by_edge from j f along k at_j checks leads_to is) = ⊎_elim
      (λ eq.
      let same : j ≡ i = same_insn from j eq at_j in
      let there : abstract_step limits u j (Grown u) ≡ Ok f = subst (λ y. abstract_step limits y j (Grown y) ≡ Ok f) eq checks in
      let this : abstract_step limits u i s ≡ Ok f = subst (λ y. abstract_step limits u i y ≡ Ok f) new_at (subst (λ y. abstract_step limits u y (Grown u) ≡ Ok f) same there) in
      let both : Ok f ≡ Ok e = sym this ∙ ok in
      let effect : f ≡ e = cc in
      along_new along t x (subst (λ y. edge_target u y along ≡ Some t) same (subst (λ y. edge_target y j along ≡ Some t) eq leads_to)) (is ∙ ap (along_edge along) effect))
      (λ ne. let k_old : from < u = omega arith in inl (inl (by_edge from j f along k_old at_j (subst (λ y. abstract_step limits from j y ≡ Ok f) (old_at from k_old) checks) leads_to is)))
      (cases_eq from u)

  pub noted_more : (t : ℕ) (old between new : List Arrival) → IsArrivalOf (Arrives limits p (state_at states) u t) (noted_at old t) → Flows (edge_target u i Target) e.jump old between → Flows (edge_target u i Next) e.next between new → IsArrivalOf (Arrives limits p Grown (u + 1) t) (noted_at new t)
  noted_more t old between new h f g =
      noted_iff {A = Later t} {B = Arrives limits p Grown (u + 1) t} (later_arrives t) (arrives_later t) (noted_at new t)
      (noted_flows (AndIf (Arrives limits p (state_at states) u t) (edge_target u i Target) t e.jump) t g (noted_flows (Arrives limits p (state_at states) u t) t f h))

-- the step of a unit at which no instruction begins
module _ (limits : Limits) (p : List Insn) (forward : EdgesLeadForward p) (states : List AbsState) (u : ℕ) (done : length states ≡ u) (l : IsLeastBefore limits p (state_at states) u) (none : slot_at p u ≡ None) where
  abbrev Passed : Annotation
  Passed = state_at (more states entry_state)

  passed_old : (v : ℕ) → v < u → Passed v ≡ state_at states v
  passed_old v k = agrees states entry_state v (omega arith)

  no_insn : (v : ℕ) (j : Insn) → v ≡ u → slot_at p v ≡ Some j → ⊥
  no_insn v j eq at = let e : None ≡ Some j = sym none ∙ subst (λ x. slot_at p x ≡ Some j) eq at in cc

  not_here : (v : ℕ) (j : Insn) → v < u + 1 → slot_at p v ≡ Some j → v < u
  not_here v j k at = ⊎_elim (λ eq. absurd (no_insn v j eq at)) (λ ne. omega arith) (cases_eq v u)

  passed_entry : Below entry_state (Passed 0)
  passed_entry = ⊎_elim
      (λ z. subst (λ x. Below entry_state (Passed x)) z (subst (Below entry_state) (sym (at_end states entry_state u done)) (below_refl entry_state)))
      (λ ne. let pos : 0 < u = omega arith in subst (Below entry_state) (sym (passed_old 0 pos)) (l.valid.entry pos))
      (cases_eq u 0)

  passed_holds : (v : ℕ) (j : Insn) → v < u → slot_at p v ≡ Some j → HoldsAt limits Passed (u + 1) v j
  passed_holds v j k at_j =
      let h : HoldsAt limits (state_at states) u v j = l.valid.each v j k at_j in
      record {
        effect = h.effect;
        checks = subst (λ x. abstract_step limits v j x ≡ Ok h.effect) (sym (passed_old v k)) h.checks;
        edges = λ along to leads_to below.
            let there : (m : Insn) × (slot_at p to ≡ Some m) = (forward v along to (record { insn = j; begins = at_j; leads_to = leads_to })).1 in
            let to_old : to < u = not_here to there.0 below there.1 in
            subst (Below (along_edge along h.effect)) (sym (passed_old to to_old)) (h.edges along to leads_to to_old);
      }

  pub least_passed : IsLeastBefore limits p Passed (u + 1)
  least_passed = record {
    valid = record { entry = λ k. passed_entry; each = λ v j k at_j. passed_holds v j (not_here v j k at_j) at_j };
    least = λ b valid v j k at_j.
        let v_old : v < u = not_here v j k at_j in
        subst (λ x. Below x (b v)) (sym (passed_old v v_old)) (l.least b (valid_weaken u (omega arith) valid) v j v_old at_j);
  }

  pub passed_arrives : (t : ℕ) (x : AbsState) → Arrives limits p (state_at states) u t x → Arrives limits p Passed (u + 1) t x
  passed_arrives t x (at_entry z is) = at_entry z is
  passed_arrives t x (by_edge from j f along k at_j checks leads_to is) = by_edge from j f along (omega arith) at_j (subst (λ y. abstract_step limits from j y ≡ Ok f) (sym (passed_old from k)) checks) leads_to is

  pub arrives_passed : (t : ℕ) (x : AbsState) → Arrives limits p Passed (u + 1) t x → Arrives limits p (state_at states) u t x
  arrives_passed t x (at_entry z is) = at_entry z is
  arrives_passed t x (by_edge from j f along k at_j checks leads_to is) =
      let k_old : from < u = not_here from j k at_j in
      by_edge from j f along k_old at_j (subst (λ y. abstract_step limits from j y ≡ Ok f) (passed_old from k_old) checks) leads_to is
