-- Merging one more state into the arrivals at a unit.
use Rattle.std.proofs.Common.{◌≡◌, ◌≢◌, ◌⊎◌, inl, inr, ⊎_elim, ℕ, refl, sym, ◌∙◌, ap, subst, List, Option, Some, None}
use Rattle.std.proofs.lemmas.Bool.{cases_eq}
use Rattle.rb_verifier.specs.declared.state.AbsState.{AbsState}
use Rattle.rb_verifier.specs.Forms.{IsFormed}
use Rattle.rb_verifier.specs.AbstractStates.{Below}
use Rattle.rb_verifier.proofs.Laws.{below_refl, below_trans, form_below}
use Rattle.rb_verifier.specs.declared.arrivals.Arrival.{Arrival}
use Rattle.rb_verifier.specs.declared.arrivals.Arrival.TheVariants.{Nothing, Least, Differ}
use Rattle.rb_verifier.specs.inner.Sweep.{noted_at, IsArrivalOf, IsFormedAt, IsMerged, Flows}

-- the arrival depends only on the set of states
pub noted_iff : {A B : AbsState → Type 0} → ((x : AbsState) → A x → B x) → ((x : AbsState) → B x → A x) → (arrival : Arrival) → IsArrivalOf A arrival → IsArrivalOf B arrival
noted_iff f g Nothing h = λ s b. h s (g s b)
noted_iff f g (Least s) h = record {
  least = record { above = λ x b. h.least.above x (g x b); least = λ t k. h.least.least t (λ x a. k x (f x a)) };
  one = h.one;
  one_is = f h.one h.one_is;
}
noted_iff f g Differ h = record { one = h.one; other = h.other; one_is = f h.one h.one_is; other_is = f h.other h.other_is; differ = h.differ }

-- a set with one more state
abbrev And : (AbsState → Type 0) → AbsState → AbsState → Type 0
And A s x = A x ⊎ (x ≡ s)

noted_merged : (A : AbsState → Type 0) (s : AbsState) (old new : Arrival) → IsArrivalOf A old → IsMerged old s new → IsArrivalOf (And A s) new
noted_merged A s Nothing new h m = subst (IsArrivalOf (And A s)) (sym m) (record {
  least = record {
    above = λ x. ⊎_elim (λ a. absurd (h x a)) (λ e. subst (λ y. Below y s) (sym e) (below_refl s));
    least = λ t k. k s (inr refl);
  };
  one = s;
  one_is = inr refl;
})
noted_merged A s (Least t) Nothing h m = absurd m
noted_merged A s (Least t) (Least r) h m = record {
  least = record {
    above = λ x. ⊎_elim (λ a. below_trans (h.least.above x a) m.left) (λ e. subst (λ y. Below y r) (sym e) m.right);
    least = λ w k. m.least w (h.least.least w (λ x a. k x (inl a))) (k s (inr refl));
  };
  one = h.one;
  one_is = inl h.one_is;
}
noted_merged A s (Least t) Differ h m = record {
  one = h.one;
  other = s;
  one_is = inl h.one_is;
  other_is = inr refl;
  differ = λ e. m (sym (h.least.above h.one h.one_is).held ∙ e);
}
noted_merged A s Differ new h m = subst (IsArrivalOf (And A s)) (sym m) (record { one = h.one; other = h.other; one_is = inl h.one_is; other_is = inl h.other_is; differ = h.differ })

formed_merged : (unit : ℕ) (s : AbsState) (old new : Arrival) → IsFormed unit s → IsFormedAt unit old → IsMerged old s new → IsFormedAt unit new
formed_merged unit s Nothing new f h m = subst (IsFormedAt unit) (sym m) f
formed_merged unit s (Least t) Nothing f h m = tt
formed_merged unit s (Least t) (Least r) f h m = form_below m.left h
formed_merged unit s (Least t) Differ f h m = tt
formed_merged unit s Differ new f h m = subst (IsFormedAt unit) (sym m) tt

option_cases : (o : Option ℕ) (t : ℕ) → (o ≡ Some t) ⊎ (o ≢ Some t)
option_cases None t = inr (λ e. cc)
option_cases (Some u) t = ⊎_elim (λ e. inl (ap Some e)) (λ ne. inr (λ e. ne (cc))) (cases_eq u t)

-- a set with one more state if the unit is the target
abbrev pub AndIf : (AbsState → Type 0) → Option ℕ → ℕ → AbsState → AbsState → Type 0
AndIf A target t s x = A x ⊎ ((target ≡ Some t) × (x ≡ s))

pub noted_flows : (A : AbsState → Type 0) {s : AbsState} {target : Option ℕ} {old new : List Arrival} (t : ℕ) → Flows target s old new → IsArrivalOf A (noted_at old t) → IsArrivalOf (AndIf A target t s) (noted_at new t)
noted_flows A {s} {target} {old} {new} t f h = ⊎_elim there elsewhere (option_cases target t)
  where
    there : target ≡ Some t → IsArrivalOf (AndIf A target t s) (noted_at new t)
    there e = noted_iff {A = And A s} {B = AndIf A target t s} (λ x. ⊎_elim (λ a. inl a) (λ k. inr (e, k))) (λ x. ⊎_elim (λ a. inl a) (λ k. inr k.1)) (noted_at new t) (noted_merged A s (noted_at old t) (noted_at new t) h (f.there t e))

    elsewhere : target ≢ Some t → IsArrivalOf (AndIf A target t s) (noted_at new t)
    elsewhere ne = subst (IsArrivalOf (AndIf A target t s)) (sym (f.elsewhere t ne)) (noted_iff {A = A} {B = AndIf A target t s} (λ x a. inl a) (λ x. ⊎_elim (λ a. a) (λ k. absurd (ne k.0))) (noted_at old t) h)

pub formed_flows : {s : AbsState} {target : Option ℕ} {old new : List Arrival} (t : ℕ) → Flows target s old new → (target ≡ Some t → IsFormed t s) → IsFormedAt t (noted_at old t) → IsFormedAt t (noted_at new t)
formed_flows {s} {target} {old} {new} t f formed h =
    ⊎_elim (λ e. formed_merged t s (noted_at old t) (noted_at new t) (formed e) h (f.there t e)) (λ ne. subst (IsFormedAt t) (sym (f.elsewhere t ne)) h) (option_cases target t)
