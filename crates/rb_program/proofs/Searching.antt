-- The search for reachable units: each step keeps the invariant, and at the end exactly those units are marked.
use Rattle.std.proofs.Common.{◌≡◌, ◌⊎◌, inl, inr, ⊎_elim, ℕ, zero, suc, ◌+◌, ◌<◌, refl, sym, ◌∙◌, ap, subst, Bool, true, false, List, [], ◌∷◌, ◌++◌, length, get_or, set, Option, Some, None, arith, length-append, length-set, replicate, get_or-set_same, get_or-set_other}
use Rattle.std.specs.List.{Contains}
use Rattle.std.proofs.lemmas.Bool.{cases_eq, cases_lt}
use Rattle.std.proofs.lemmas.List.{get_or_past}
use Rattle.std.proofs.lemmas.List.Elements.{Contains-append_left, Contains-push, Contains-push_cases}
use Rattle.rb_insn.specs.declared.insn.Insn.{Insn}
use Rattle.rb_program.specs.Program.{unit_count, units_of, slot_at}
use Rattle.rb_program.specs.Edges.{Edge, Next, Target, edge_target, IsReached, start, by_edge}
use Rattle.rb_program.specs.inner.Reach.{IsMarked, unmarked, MarksReached, Marks, TargetsMarked, Search}

marked_inside : (marks : List Bool) (u : ℕ) → IsMarked marks u → u < length marks
marked_inside marks u m = ⊎_elim (λ lt. lt) (λ le. let e : false ≡ true = sym (get_or_past marks u false le) ∙ m in cc) (cases_lt u (length marks))

unmarked-set : (marks : List Bool) (u : ℕ) → u < length marks → get_or marks u false ≡ false → unmarked (set marks u true) + 1 ≡ unmarked marks
unmarked-set [] u lt e = absurd (omega arith)
unmarked-set (true ∷ marks) zero lt e = cc
unmarked-set (false ∷ marks) zero lt e = refl
unmarked-set (true ∷ marks) (suc u) lt e = unmarked-set marks u (omega arith) e
unmarked-set (false ∷ marks) (suc u) lt e = omega (arith, unmarked-set marks u (omega arith) e)

marked_set : (marks : List Bool) (u v : ℕ) → u < length marks → IsMarked (set marks u true) v → IsMarked marks v ⊎ (v ≡ u)
marked_set marks u v lt m = ⊎_elim (λ eq. inr eq) (λ ne. inl (sym (get_or-set_other marks u v true false ne) ∙ m)) (cases_eq v u)

set_keeps : (marks : List Bool) (u v : ℕ) → u < length marks → IsMarked marks v → IsMarked (set marks u true) v
set_keeps marks u v lt m = ⊎_elim (λ eq. subst (IsMarked (set marks u true)) (sym eq) (get_or-set_same marks u true false lt)) (λ ne. get_or-set_other marks u v true false ne ∙ m) (cases_eq v u)

pub marks_one : (marks : List Bool) (waiting : List ℕ) (u : ℕ) → u < length marks → get_or marks u false ≡ false → Marks (Some u) marks waiting (set marks u true) (waiting ++ u ∷ [])
marks_one marks waiting u lt e = record {
  count = length-set marks u true;
  keeps = λ v m. set_keeps marks u v lt m;
  there = λ v eq k. let same : u ≡ v = cc in subst (IsMarked (set marks u true)) same (get_or-set_same marks u true false lt);
  only = λ v m. ⊎_elim (λ a. inl a) (λ eq. inr (ap Some (sym eq))) (marked_set marks u v lt m);
  fresh = λ v m. ⊎_elim (λ a. inl a) (λ eq. inr (subst (Contains (waiting ++ u ∷ [])) (sym eq) (Contains-push waiting u))) (marked_set marks u v lt m);
  waiting_keeps = λ v h. Contains-append_left waiting (u ∷ []) v h;
  waiting_only = λ v h. ⊎_elim (λ a. inl a) (λ eq. inr (subst (IsMarked (set marks u true)) eq (get_or-set_same marks u true false lt))) (Contains-push_cases waiting u v h);
  work = omega (arith, length-append waiting (u ∷ []), unmarked-set marks u lt e);
}

pub marks_none : (target : Option ℕ) (marks : List Bool) (waiting : List ℕ) → ((u : ℕ) → target ≡ Some u → u < length marks → IsMarked marks u) → Marks target marks waiting marks waiting
marks_none target marks waiting h = record {
  count = refl;
  keeps = λ v m. m;
  there = λ v e lt. h v e lt;
  only = λ v m. inl m;
  fresh = λ v m. inl m;
  waiting_keeps = λ v k. k;
  waiting_only = λ v k. inl k;
  work = omega arith;
}

pub waiting_inside : {program : List Insn} {marks : List Bool} (waiting : List ℕ) (u : ℕ) → Search program marks (waiting ++ u ∷ []) → u < unit_count program
waiting_inside {program} {marks} waiting u h = let lt : u < length marks = marked_inside marks u (h.waiting_marked u (Contains-push waiting u)) in omega (arith, h.count)

-- a unit at which no instruction begins has no edge
pub nothing_there : {program : List Insn} {marks : List Bool} (waiting : List ℕ) (u : ℕ) → slot_at program u ≡ None → Search program marks (waiting ++ u ∷ []) → Search program marks waiting
nothing_there {program} {marks} waiting u none h = record {
  count = h.count;
  start = h.start;
  sound = h.sound;
  waiting_marked = λ v k. h.waiting_marked v (Contains-append_left waiting (u ∷ []) v k);
  closed = λ v m. ⊎_elim
      (λ k. ⊎_elim (λ a. inl a) (λ eq. inr (subst (TargetsMarked program marks) eq no_edge)) (Contains-push_cases waiting u v k))
      (λ t. inr t) (h.closed v m);
}
  where
    no_edge : TargetsMarked program marks u
    no_edge along to e lt = let f : None ≡ Some e.insn = sym none ∙ e.begins in cc

-- after a step, the targets of the unit's edges are marked
pub looked_at : {program : List Insn} {marks m1 m2 : List Bool} {t1 t2 : List ℕ} (waiting : List ℕ) (u : ℕ) (i : Insn) → slot_at program u ≡ Some i → Search program marks (waiting ++ u ∷ []) → Marks (edge_target u i Next) marks waiting m1 t1 → Marks (edge_target u i Target) m1 t1 m2 t2 → Search program m2 t2
looked_at {program} {marks} {m1} {m2} {t1} {t2} waiting u i at h f g = record {
  count = g.count ∙ f.count ∙ h.count;
  start = λ lt. g.keeps 0 (f.keeps 0 (h.start lt));
  sound = λ v m. ⊎_elim (λ a. ⊎_elim (λ b. h.sound v b) (λ e. reached Next v e) (f.only v a)) (λ e. reached Target v e) (g.only v m);
  waiting_marked = λ v k. ⊎_elim (λ a. g.keeps v (⊎_elim (λ b. f.keeps v (h.waiting_marked v (Contains-append_left waiting (u ∷ []) v b))) (λ b. b) (f.waiting_only v a))) (λ a. a) (g.waiting_only v k);
  closed = λ v m. ⊎_elim (λ a. ⊎_elim (λ b. old v b) (λ b. inl (g.waiting_keeps v b)) (f.fresh v a)) (λ a. inl a) (g.fresh v m);
}
  where
    reached : (along : Edge) (v : ℕ) → edge_target u i along ≡ Some v → IsReached program v
    reached along v e = by_edge along (h.sound u (h.waiting_marked u (Contains-push waiting u))) (record { insn = i; begins = at; leads_to = e })

    target_marked : (along : Edge) (to : ℕ) → edge_target u i along ≡ Some to → to < unit_count program → IsMarked m2 to
    target_marked Next to e lt = g.keeps to (f.there to e (omega (arith, h.count)))
    target_marked Target to e lt = g.there to e (omega (arith, h.count, f.count))

    here : TargetsMarked program m2 u
    here along to e lt =
        let both : Some e.insn ≡ Some i = sym e.begins ∙ at in
        let same : e.insn ≡ i = cc in
        target_marked along to (subst (λ x. edge_target u x along ≡ Some to) same e.leads_to) lt

    old : (v : ℕ) → IsMarked marks v → Contains t2 v ⊎ TargetsMarked program m2 v
    old v m = ⊎_elim
        (λ k. ⊎_elim (λ a. inl (g.waiting_keeps v (f.waiting_keeps v a))) (λ eq. inr (subst (TargetsMarked program m2) eq here)) (Contains-push_cases waiting u v k))
        (λ t. inr (λ along to e lt. g.keeps to (f.keeps to (t along to e lt)))) (h.closed v m)

pub started : {program : List Insn} {none marks : List Bool} {waiting : List ℕ} → length none ≡ unit_count program → ((u : ℕ) → IsMarked none u → ⊥) → Marks (Some 0) none [] marks waiting → Search program marks waiting
started {program} {none} {marks} {waiting} count empty h = record {
  count = h.count ∙ count;
  start = λ lt. h.there 0 refl (omega arith);
  sound = λ v m. ⊎_elim (λ a. absurd (empty v a)) (λ e. let z : 0 ≡ v = cc in subst (IsReached program) z start) (h.only v m);
  waiting_marked = λ v k. ⊎_elim (λ a. absurd (omega (arith, a.1))) (λ m. m) (h.waiting_only v k);
  closed = λ v m. ⊎_elim (λ a. absurd (empty v a)) (λ k. inl k) (h.fresh v m);
}

all_marked : {program : List Insn} {marks : List Bool} (waiting : List ℕ) → length waiting ≡ 0 → Search program marks waiting → (u : ℕ) → IsReached program u → u < unit_count program → IsMarked marks u
all_marked {program} {marks} waiting none h u start lt = h.start lt
all_marked {program} {marks} waiting none h u (by_edge {from} {to} along r e) lt =
    let from_inside : from < unit_count program = ⊎_elim (λ k. k) (λ le. let f : None ≡ Some e.insn = sym (get_or_past (units_of program) from None le) ∙ e.begins in cc) (cases_lt from (unit_count program)) in
    ⊎_elim (λ k. absurd (omega (arith, k.1))) (λ t. t along to e lt) (h.closed from (all_marked waiting none h from r from_inside))

pub finished : {program : List Insn} {marks : List Bool} (waiting : List ℕ) → length waiting ≡ 0 → Search program marks waiting → MarksReached program marks
finished waiting none h = record { count = h.count; only = h.sound; each = λ u lt r. all_marked waiting none h u r lt }

pub none_marked : (n u : ℕ) → IsMarked (replicate n false) u → ⊥
none_marked zero u m = cc
none_marked (suc n) zero m = cc
none_marked (suc n) (suc u) m = none_marked n u m
