-- Each step at the lock preserves its rule.
use Rattle.std.proofs.Common.{◌≡◌, ℕ, zero, suc, ◌+◌, ◌≤◌, Bool, true, false, cond, List, [], ◌∷◌, ◌++◌, set, Some, None, sym, refl, ap, ◌∙◌, subst, ⊎_elim, append_assoc, arith}
use mathlib.Core.Option.{some, some-injective, some-ne-none}
use lib.ListN.{get_elem?}
use Rattle.crossbeam_queue.specs.Fifo.{Pushes, Pops, Forks, Merges, Learns}
use Rattle.crossbeam_queue.proofs.Lists.{at_set, at_snoc}
use Rattle.rb_history.specs.RingModel.{Ring}
use Rattle.rb_ledger.specs.Roles.{Role}
use Rattle.rb_ledger.specs.RoleKnowledge.{RoleKnowledge, PassView, pass_view, same_role, role_count, states_out}
use Rattle.rb_ledger.specs.Ledger.{Ledger, FitsLedger}
use Rattle.rb_ledger.specs.LockRule.{AllFit, KeepsLockRule}
use Rattle.rb_ledger.specs.LockSteps.{TakesState, RoleStep}
use Rattle.rb_ledger.specs.inner.OpenedLock.{first_role, other_roles}
use Rattle.rb_ledger.proofs.Views.{Everyone, everyone_set, total_set, total_one, total_two, total_snoc, total_none, single, both_nil, outs_same, outs_put, outs_take, outs_snoc, times_append, times_cut, same_role-refl}

apart : (b : Bool) (n : ℕ) → cond b 1 0 + n ≡ 0 → (b ≡ false) × (n ≡ 0)
apart true n e = absurd (omega arith)
apart false n e = (refl, omega arith)

fit_append : (s : Ledger) (xs ys : List RoleKnowledge) → AllFit s xs → AllFit s ys → AllFit s (xs ++ ys)
fit_append s [] ys a b = b
fit_append s (x ∷ xs) ys a b = (a.0, fit_append s xs ys a.1 b)

fit_first : (s : Ledger) (ks : List RoleKnowledge) → AllFit s ks → AllFit s (first_role ks)
fit_first s [] a = tt
fit_first s (k ∷ ks) a = (a.0, tt)

fit_rest : (s : Ledger) (ks : List RoleKnowledge) → AllFit s ks → AllFit s (other_roles ks)
fit_rest s [] a = tt
fit_rest s (k ∷ ks) a = a.1

fits_on : (mine : Role) (s t : Ledger) → ((k : RoleKnowledge) → same_role mine k.role ≡ false → FitsLedger s k → FitsLedger t k) → (ks : List RoleKnowledge) → role_count mine ks ≡ 0 → AllFit s ks → AllFit t ks
fits_on mine s t keeps [] none fit = tt
fits_on mine s t keeps (k ∷ ks) none fit =
    let a = apart (same_role mine k.role) (role_count mine ks) none in
    (keeps k a.0 fit.0, fits_on mine s t keeps ks a.1 fit.1)

-- a pass without the state takes it out
pub takes : (pass : ℕ) (v : PassView) → v.out ≡ None → Pops KeepsLockRule pass v (TakesState v)
takes pass v none x items views kept at =
    let w = pass_view v.knows (Some x) in
    let alone = single [] (items ++ states_out views) x kept.ledger.ring kept.one_state in
    let rest = both_nil items (states_out views) alone.2 in (
      w,
      record {
        ledger = kept.ledger;
        one_state = ap (λ os. os ++ states_out (set views pass w)) rest.0 ∙ outs_put views pass v w at rest.1 ∙ ap (λ r. r ∷ []) alone.1;
        each_role_once = λ role. let t = total_set (λ u. role_count role u.knows) views pass v w at in let once = kept.each_role_once role in omega arith;
        each_saw_a_beginning = everyone_set (λ u. AllFit kept.ledger u.knows) views pass w (kept.each_saw_a_beginning pass v at) (λ j u _ e. kept.each_saw_a_beginning j u e);
      },
      (refl, (kept.ledger, sym alone.1, kept.each_saw_a_beginning pass v at), λ role. let t = total_one (λ u. role_count role u.knows) views pass v at in let once = kept.each_role_once role in omega arith),
    )

-- a pass with one role puts a state back, if the change of the state is a step of that role
pub puts : (n pass : ℕ) (me after : RoleKnowledge) (r new : Ring) → after.role ≡ me.role → RoleStep me r new after
    → Pushes KeepsLockRule n pass (pass_view (me ∷ []) (Some r)) new (λ w. w ≡ pass_view (after ∷ []) None)
puts n pass me after r new same step items views room kept at =
    let v = pass_view (me ∷ []) (Some r) in
    let w = pass_view (after ∷ []) None in
    let o = outs_take views pass v w r at refl refl in
    let alone = single (items ++ o.0) o.1 r kept.ledger.ring (append_assoc items o.0 (r ∷ o.1) ∙ ap (λ os. items ++ os) (sym o.2) ∙ kept.one_state) in
    let rest = both_nil items o.0 alone.0 in
    let done = step kept.ledger (sym alone.1) (kept.each_saw_a_beginning pass v at).0 in
    let me_once : role_count me.role v.knows ≡ 1 = ap (λ b. cond b 1 0 + 0) (same_role-refl me.role) in (
      w,
      record {
        ledger = done.0;
        one_state = ap (λ os. (os ++ new ∷ []) ++ states_out (set views pass w)) rest.0 ∙ ap (λ os. new ∷ os) (o.3 ∙ ap (λ os. os ++ o.1) rest.1 ∙ alone.2) ∙ ap (λ x. x ∷ []) (sym done.1);
        each_role_once = (λ x.
            let t = total_set (λ u. role_count x u.knows) views pass v w at in
            let f : role_count x w.knows ≡ role_count x v.knows = ap (λ y. cond (same_role x y) 1 0 + 0) same in
            let once = kept.each_role_once x in omega arith);
        each_saw_a_beginning = everyone_set (λ u. AllFit done.0 u.knows) views pass w (done.2, tt)
            (λ j u other e.
            let two = total_two (λ u. role_count me.role u.knows) views pass j v u other at e in
            let once = kept.each_role_once me.role in
            fits_on me.role kept.ledger done.0 done.3 u.knows (omega arith) (kept.each_saw_a_beginning j u e));
      },
      refl,
    )

-- while a pass holds the state, the queue is empty
pub away : (pass : ℕ) (v : PassView) (r : Ring) → v.out ≡ Some r → Learns KeepsLockRule pass v (λ items. items ≡ [])
away pass v r has items views kept at =
    let o = outs_take views pass v (pass_view [] None) r at has refl in
    let alone = single (items ++ o.0) o.1 r kept.ledger.ring (append_assoc items o.0 (r ∷ o.1) ∙ ap (λ os. items ++ os) (sym o.2) ∙ kept.one_state) in
    (both_nil items o.0 alone.0).0

-- a pass's first role is split off
pub forks : (pass : ℕ) (v : PassView) → Forks KeepsLockRule pass v (pass_view (other_roles v.knows) v.out) (pass_view (first_role v.knows) None)
forks pass v items views kept at =
    let left = pass_view (other_roles v.knows) v.out in
    let right = pass_view (first_role v.knows) None in
    let vs = set views pass left in
    let fits : Everyone (λ u. AllFit kept.ledger u.knows) vs = everyone_set (λ u. AllFit kept.ledger u.knows) views pass left (fit_rest kept.ledger v.knows (kept.each_saw_a_beginning pass v at)) (λ j u _ e. kept.each_saw_a_beginning j u e) in
    record {
      ledger = kept.ledger;
      one_state = ap (λ os. items ++ os) (outs_snoc vs right refl ∙ outs_same views pass v left at refl) ∙ kept.one_state;
      each_role_once = (λ x.
          let t = total_set (λ u. role_count x u.knows) views pass v left at in
          let s = total_snoc (λ u. role_count x u.knows) vs right in
          let c = times_cut x v.knows in
          let once = kept.each_role_once x in
          omega arith);
      each_saw_a_beginning = λ j u e. ⊎_elim (λ h. fits j u h) (λ (same : right ≡ u). subst (λ (y : PassView). AllFit kept.ledger y.knows) same (fit_first kept.ledger v.knows (kept.each_saw_a_beginning pass v at))) (at_snoc vs right u j e);
    }

-- a pass takes in the roles of another that holds no state
pub merges : (pass : ℕ) (v : PassView) (other : ℕ) (u : PassView) → u.out ≡ None → Merges KeepsLockRule pass v other u (pass_view (u.knows ++ v.knows) v.out) (pass_view [] None)
merges pass v other u none items views kept at ne at' =
    let both = pass_view (u.knows ++ v.knows) v.out in
    let spent = pass_view [] None in
    let vs = set views pass both in
    let was : get_elem? views other ≡ some u = ⊎_elim (λ x. absurd (ne x.0)) (λ x. x.1) (at_set views pass other both u at') in
    let mine = fit_append kept.ledger u.knows v.knows (kept.each_saw_a_beginning other u was) (kept.each_saw_a_beginning pass v at) in
    let fits : Everyone (λ y. AllFit kept.ledger y.knows) vs = everyone_set (λ y. AllFit kept.ledger y.knows) views pass both mine (λ j y _ e. kept.each_saw_a_beginning j y e) in
    record {
      ledger = kept.ledger;
      one_state = ap (λ os. items ++ os) (outs_same vs other u spent at' (sym none) ∙ outs_same views pass v both at refl) ∙ kept.one_state;
      each_role_once = (λ x.
          let t = total_set (λ y. role_count x y.knows) views pass v both at in
          let t' = total_set (λ y. role_count x y.knows) vs other u spent at' in
          let a = times_append x u.knows v.knows in
          let once = kept.each_role_once x in
          omega arith);
      each_saw_a_beginning = everyone_set (λ y. AllFit kept.ledger y.knows) vs other spent tt (λ j y _ e. fits j y e);
    }

nobody : (s : Ledger) → ((k : RoleKnowledge) → FitsLedger s k → ⊥) → (ks : List RoleKnowledge) → AllFit s ks → ks ≡ []
nobody s nobody_fits [] fit = refl
nobody s nobody_fits (k ∷ ks) fit = absurd (nobody_fits k fit.0)

-- the pass that holds the unopened state puts the first state in, and gets its roles
pub opens : (n pass : ℕ) (dummy r : Ring) (t : Ledger) (ks : List RoleKnowledge) → ((s : Ledger) → s.ring ≡ dummy → (k : RoleKnowledge) → FitsLedger s k → ⊥) → t.ring ≡ r → AllFit t ks → ((role : Role) → role_count role ks ≤ 1)
    → Pushes KeepsLockRule n pass (pass_view [] (Some dummy)) r (λ w. w ≡ pass_view ks None)
opens n pass dummy r t ks nobody_fits is fit ones items views room kept at =
    let v = pass_view [] (Some dummy) in
    let w = pass_view ks None in
    let o = outs_take views pass v w dummy at refl refl in
    let alone = single (items ++ o.0) o.1 dummy kept.ledger.ring (append_assoc items o.0 (dummy ∷ o.1) ∙ ap (λ os. items ++ os) (sym o.2) ∙ kept.one_state) in
    let rest = both_nil items o.0 alone.0 in
    let none : Everyone (λ u. u.knows ≡ []) views = λ j u e. nobody kept.ledger (nobody_fits kept.ledger (sym alone.1)) u.knows (kept.each_saw_a_beginning j u e) in (
      w,
      record {
        ledger = t;
        one_state = ap (λ os. (os ++ r ∷ []) ++ states_out (set views pass w)) rest.0 ∙ ap (λ os. r ∷ os) (o.3 ∙ ap (λ os. os ++ o.1) rest.1 ∙ alone.2) ∙ ap (λ x. x ∷ []) (sym is);
        each_role_once = (λ x.
            let s = total_set (λ u. role_count x u.knows) views pass v w at in
            let nothing = total_none (λ u. role_count x u.knows) views (λ j u e. ap (role_count x) (none j u e)) in
            let one = ones x in
            omega arith);
        each_saw_a_beginning = everyone_set (λ u. AllFit t u.knows) views pass w fit (λ j u _ e. subst (λ l. AllFit t l) (sym (none j u e)) tt);
      },
      refl,
    )

-- initially there is one pass, which holds the unopened state
pub begins : (s : Ledger) → KeepsLockRule [] (pass_view [] (Some s.ring) ∷ [])
begins s = record {
  ledger = s;
  one_state = refl;
  each_role_once = λ x. omega arith;
  each_saw_a_beginning = λ j u e. elim j as (λ k. get_elem? (pass_view [] (Some s.ring) ∷ []) k ≡ some u → AllFit s u.knows) [
    | zero ↦ (λ h. subst (λ (y : PassView). AllFit s y.knows) (some-injective (pass_view [] (Some s.ring)) u h) tt)
    | suc k ↦ (λ h. absurd (some-ne-none u (sym h)))
  ] e;
}
