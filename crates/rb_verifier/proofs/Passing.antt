-- The progress of the verifier's pass, from its start to its end or to a refusal.
use Rattle.std.proofs.Common.{◌≡◌, ⊎_elim, ℕ, ◌+◌, ◌<◌, refl, sym, ◌∙◌, ap, subst, List, [], ◌∷◌, length, Ok, Err, Some, None, arith, length-append}
use Rattle.std.proofs.lemmas.Bool.{cases_eq, cases_lt}
use Rattle.std.proofs.lemmas.List.{get_or_past}
use Rattle.rb_insn.specs.declared.insn.Insn.{Insn}
use Rattle.rb_program.specs.Program.{unit_count, units_of, slot_at}
use Rattle.rb_program.specs.Edges.{Edge, Next, Target, edge_target}
use Rattle.rb_program.specs.Shape.{EdgesLeadForward, EachIsEntered}
use Rattle.rb_verifier.specs.declared.limits.Limits.{Limits}
use Rattle.rb_verifier.specs.declared.rule.Rule.{Rule}
use Rattle.rb_verifier.specs.declared.rule.Rule.TheVariants.{ReferencesDiffer}
use Rattle.rb_verifier.specs.declared.state.AbsState.{AbsState}
use Rattle.rb_verifier.specs.declared.state.Effect.{Effect}
use Rattle.rb_verifier.specs.Forms.{IsFormed}
use Rattle.rb_verifier.specs.AbstractStates.{Below, entry_state}
use Rattle.rb_verifier.specs.VerifierChecks.{abstract_step}
use Rattle.rb_verifier.proofs.Laws.{below_refl, form_entry, step_forms}
use Rattle.rb_verifier.specs.declared.arrivals.Arrival.{Arrival}
use Rattle.rb_verifier.specs.declared.arrivals.Arrival.TheVariants.{Nothing, Least, Differ}
use Rattle.rb_verifier.specs.Annotation.{Annotation, IsValid, IsValidBefore, Arrives, at_entry, by_edge, HaveDifferent, differ, check, IsFirstBrokenRule, HasNoValid}
use Rattle.rb_verifier.specs.Annotation.{state_at}
use Rattle.rb_verifier.specs.inner.Sweep.{noted_at, IsLeastOfSome, IsArrivalOf, IsFormedAt, TakesArrival, Flows, Progress, AreFirstArrivals}
use Rattle.rb_verifier.proofs.Least.{no_valid_differ, no_valid_check, something_arrives}
use Rattle.rb_verifier.proofs.Noting.{noted_iff, formed_flows}
use Rattle.rb_verifier.proofs.Turning.{more, least_more, noted_more, least_passed, passed_arrives, arrives_passed}

-- no instruction begins past the end
inside_program : (p : List Insn) (u : ℕ) (i : Insn) → slot_at p u ≡ Some i → u < unit_count p
inside_program p u i at = ⊎_elim (λ lt. lt) (λ le. let e : None ≡ Some i = sym (get_or_past (units_of p) u None le) ∙ at in cc) (cases_lt u (unit_count p))

-- before the first step, nothing has arrived from earlier units
not_below_zero : {limits : Limits} {p : List Insn} {a : Annotation} {t : ℕ} {s : AbsState} → 0 < t → Arrives limits p a 0 t s → ⊥
not_below_zero pos (at_entry z is) = omega arith
not_below_zero pos (by_edge from i e along lt at checks leads_to is) = omega arith

at_zero : {limits : Limits} {p : List Insn} {a : Annotation} (s : AbsState) → Arrives limits p a 0 0 s → s ≡ entry_state
at_zero s (at_entry z is) = is
at_zero s (by_edge from i e along lt at checks leads_to is) = absurd (omega arith)

pub progress_start : (limits : Limits) (p : List Insn) (arrivals : List Arrival) → 0 < unit_count p → AreFirstArrivals (unit_count p) arrivals → Progress limits p [] arrivals 0
progress_start limits p arrivals some h = record {
  done = refl;
  count = h.count;
  least = record {
    valid = record { entry = λ k. absurd (omega arith); each = λ v i k at. absurd (omega arith) };
    least = λ b valid v i k at. absurd (omega arith);
  };
  noted = λ t le lt. ⊎_elim
      (λ z. subst (λ x. IsArrivalOf (Arrives limits p (state_at []) 0 x) (noted_at arrivals x)) (sym z) (subst (IsArrivalOf (Arrives limits p (state_at []) 0 0)) (sym (h.first some)) first))
      (λ ne. let pos : 0 < t = omega arith in subst (IsArrivalOf (Arrives limits p (state_at []) 0 t)) (sym (h.others t pos)) (λ s a. not_below_zero pos a))
      (cases_eq t 0);
  formed = λ t le. ⊎_elim
      (λ z. subst (λ x. IsFormedAt x (noted_at arrivals x)) (sym z) (subst (IsFormedAt 0) (sym (h.first some)) (form_entry 0)))
      (λ ne. subst (IsFormedAt t) (sym (h.others t (omega arith))) tt)
      (cases_eq t 0);
}
  where
    first : IsLeastOfSome (Arrives limits p (state_at []) 0 0) entry_state
    first = record {
      least = record {
        above = λ x a. subst (λ y. Below y entry_state) (sym (at_zero x a)) (below_refl entry_state);
        least = λ t k. k entry_state (at_entry refl refl);
      };
      one = entry_state;
      one_is = at_entry refl refl;
    }

pub valid_end : {limits : Limits} {p : List Insn} {states : List AbsState} {arrivals : List Arrival} {u : ℕ} → Progress limits p states arrivals u → u ≡ unit_count p → IsValid limits p (state_at states)
valid_end {limits} {p} {states} {arrivals} {u} h e = subst (IsValidBefore limits p (state_at states)) e h.least.valid

module _ {limits : Limits} {p : List Insn} {states : List AbsState} {arrivals : List Arrival} {u : ℕ} (h : Progress limits p states arrivals u) where
  -- the state that has arrived at this unit has the form of a state before it
  pub formed_here : (s : AbsState) → noted_at arrivals u ≡ Least s → IsFormed u s
  formed_here s is = subst (IsFormedAt u) is (h.formed u (omega arith))

  -- an edge leads to a unit of the program
  pub leads_inside : EdgesLeadForward p → (i : Insn) (to : ℕ) (along : Edge) → slot_at p u ≡ Some i → edge_target u i along ≡ Some to → to < length arrivals
  leads_inside forward i to along at e =
      let there : (j : Insn) × (slot_at p to ≡ Some j) = (forward u along to (record { insn = i; begins = at; leads_to = e })).1 in
      let inside : to < unit_count p = inside_program p to there.0 there.1 in
      omega (arith, h.count)

  -- a unit at which no instruction begins
  pub sweep_over : EdgesLeadForward p → slot_at p u ≡ None → Progress limits p (more states entry_state) arrivals (u + 1)
  sweep_over forward none = record {
    done = length-append states (entry_state ∷ []) ∙ ap (λ n. n + 1) h.done;
    count = h.count;
    least = least_passed limits p forward states u h.done h.least none;
    noted = λ t k t_lt. noted_iff {A = Arrives limits p (state_at states) u t} {B = Arrives limits p (state_at (more states entry_state)) (u + 1) t} (passed_arrives limits p forward states u h.done h.least none t) (arrives_passed limits p forward states u h.done h.least none t) (noted_at arrivals t) (h.noted t (omega arith) t_lt);
    formed = λ t k. h.formed t (omega arith);
  }

  module _ (lt : u < unit_count p) where
    -- the states that arrive at this unit
    abbrev Here : AbsState → Type 0
    Here = Arrives limits p (state_at states) u u

    -- one step of the pass
    pub advance : EdgesLeadForward p → (i : Insn) (s : AbsState) (e : Effect) (rest between new : List Arrival) → slot_at p u ≡ Some i → noted_at arrivals u ≡ Least s → abstract_step limits u i s ≡ Ok e → TakesArrival u arrivals rest → Flows (edge_target u i Target) e.jump rest between → Flows (edge_target u i Next) e.next between new → Progress limits p (more states s) new (u + 1)
    advance forward i s e rest between new at is ok taken f g =
        let here : IsLeastOfSome Here s = subst (IsArrivalOf Here) is (h.noted u (omega arith) lt) in
        record {
          done = length-append states (s ∷ []) ∙ ap (λ n. n + 1) h.done;
          count = g.count ∙ f.count ∙ taken.count ∙ h.count;
          least = least_more limits p forward states u s i e h.done h.least lt at here.least ok;
          noted = λ t k t_lt. noted_more limits p forward states u s i e h.done h.least lt at here.least ok t rest between new (subst (IsArrivalOf (Arrives limits p (state_at states) u t)) (sym (taken.elsewhere t (omega arith))) (h.noted t (omega arith) t_lt)) f g;
          formed = λ t k.
              let effect = step_forms limits u i s e (formed_here s is) ok in
              formed_flows t g (λ leads_to. (effect t k).0) (formed_flows t f (λ leads_to. (effect t k).1) (subst (IsFormedAt t) (sym (taken.elsewhere t (omega arith))) (h.formed t (omega arith))));
        }

    pub refused_differ : noted_at arrivals u ≡ Differ → HasNoValid limits p × IsFirstBrokenRule limits p u ReferencesDiffer
    refused_differ is =
        let here : HaveDifferent Here = subst (IsArrivalOf Here) is (h.noted u (omega arith) lt) in
        (no_valid_differ h.least lt here, record { inside = lt; annotation = state_at states; least = h.least; stands = differ refl here })

    pub refused_check : (i : Insn) (s : AbsState) (rule : Rule) → slot_at p u ≡ Some i → noted_at arrivals u ≡ Least s → abstract_step limits u i s ≡ Err rule → HasNoValid limits p × IsFirstBrokenRule limits p u rule
    refused_check i s rule at is err =
        let here : IsLeastOfSome Here s = subst (IsArrivalOf Here) is (h.noted u (omega arith) lt) in
        (no_valid_check h.least lt here.least at err, record { inside = lt; annotation = state_at states; least = h.least; stands = check i s at here.least err })

    pub not_nothing : EachIsEntered p → (i : Insn) → slot_at p u ≡ Some i → noted_at arrivals u ≡ Nothing → ⊥
    not_nothing entered i at is =
        let none : (s : AbsState) → Here s → ⊥ = subst (IsArrivalOf Here) is (h.noted u (omega arith) lt) in
        let some : (s : AbsState) × Here s = something_arrives entered h.least i at in
        none some.0 some.1
