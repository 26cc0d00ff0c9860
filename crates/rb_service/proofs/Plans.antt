-- Wrong plans, and the first of them.
use Rattle.std.proofs.Common.{◌≡◌, ℕ, ◌+◌, ◌<◌, List, [], ◌∷◌, get_or, length, Result, Ok, Err, sym, ap, subst, ◌∙◌, inl, inr, arith}
use Rattle.std.proofs.lemmas.Bool.{cases_lt, cases_order}
use Rattle.std.proofs.lemmas.List.{get_or_default}
use Rattle.std.specs.Prelude.{◌↔◌, All, IsErrOf}
use Rattle.std.specs.List.{AllWithin}
use Rattle.rb_history.specs.RingModel.{IsRingSize}
use Rattle.rb_service.specs.Rings.{IsFirstWrong}
use Rattle.rb_service.specs.declared.rings.PlanFault.{PlanFault}
use Rattle.rb_service.specs.declared.rings.PlanFault.TheVariants.{Size, Workers}
use Rattle.rb_service.specs.declared.rings.RingPlan.{RingPlan}

same_size : (n m : ℕ) → ◌≡◌ {A = Result (Unit {0}) PlanFault} (Err (Size n)) (Err (Size m)) → n ≡ m
same_size n m e = cc

size_is_other : (n : ℕ) → ◌≡◌ {A = Result (Unit {0}) PlanFault} (Err (Size n)) (Err Workers) → ⊥
size_is_other n e = cc

pub workers_no_size : {T : Type 0} (n : ℕ) → ◌≡◌ {A = Result T PlanFault} (Err Workers) (Err (Size n)) → ⊥
workers_no_size n e = cc

pub ok_no_error : {T E : Type 0} (value : T) (error : E) → ◌≡◌ {A = Result T E} (Ok value) (Err error) → ⊥
ok_no_error value error e = cc

-- if all sizes are right, none is the first that is wrong
pub none_wrong : {S : Type 0} (plans : List (RingPlan S)) → All (λ p. IsRingSize p.size) plans → (m : ℕ) → ¬ IsFirstWrong plans m
none_wrong [] right m first = absurd (omega (arith, first.below))
none_wrong (p ∷ plans) right m first = first.wrong p (right m p first.below)

module _ {S : Type 0} (plans : List (RingPlan S)) where
  -- there is at most one first wrong plan
  only_first : (n m : ℕ) (p : RingPlan S) → IsFirstWrong plans n → IsFirstWrong plans m → n ≡ m
  only_first n m p first other = elim (cases_order n m) [
    | inl e ↦ e
    | inr (inl less) ↦ absurd (first.wrong p (other.right_before n p (omega arith) less))
    | inr (inr more) ↦ absurd (other.wrong p (first.right_before m p (omega arith) more))
  ]

  -- this one is the first
  pub is_first : (n : ℕ) (p : RingPlan S) → n < length plans → p ≡ get_or plans n p → ¬ IsRingSize p.size → AllWithin (λ q. IsRingSize q.size) plans 0 n → IsFirstWrong plans n
  is_first n p below is wrong right = record {
    below = below;
    wrong = λ d right_here. wrong (subst (λ (q : RingPlan S). IsRingSize q.size) (sym (is ∙ get_or_default plans n p d below)) right_here);
    right_before = right;
  }

  -- one more size is right
  pub right_more : (n : ℕ) (p : RingPlan S) → n < length plans → p ≡ get_or plans n p → IsRingSize p.size → AllWithin (λ q. IsRingSize q.size) plans 0 n → AllWithin (λ q. IsRingSize q.size) plans 0 (n + 1)
  right_more n p below is right so_far k d low within = elim (cases_lt k n) [
    | inl less ↦ so_far k d low less
    | inr near ↦
        let e : k ≡ n = omega arith in
        subst (λ m. IsRingSize (get_or plans m d).size) (sym e) (subst (λ (q : RingPlan S). IsRingSize q.size) (is ∙ get_or_default plans n p d below) right)
  ]

  -- a refusal of this size is that of the first wrong plan
  pub size_refused : (n : ℕ) (p : RingPlan S) → IsFirstWrong plans n → (m : ℕ) → IsErrOf {T = Unit {0}} (Err (Size n)) (Size m) ↔ IsFirstWrong plans m
  size_refused n p first m = (λ e. subst (IsFirstWrong plans) (same_size n m e) first, λ other. ap (λ k. Err (Size k)) (only_first n m p first other))

  -- then the number of workers is not refused
  pub workers_unseen : (n : ℕ) (W : Type 0) → IsFirstWrong plans n → IsErrOf {T = Unit {0}} (Err (Size n)) Workers ↔ (All (λ q. IsRingSize q.size) plans × ¬ W)
  workers_unseen n W first = (λ e. absurd (size_is_other n e), λ h. absurd (none_wrong plans h.0 n first))

  -- if all sizes are right, no other result refuses one
  pub no_size : {T E : Type 0} (answer : Result T E) (size : ℕ → E) → ((m : ℕ) → answer ≡ Err (size m) → ⊥) → All (λ q. IsRingSize q.size) plans → (m : ℕ) → IsErrOf answer (size m) ↔ IsFirstWrong plans m
  no_size answer size other right m = (λ e. absurd (other m e), λ first. absurd (none_wrong plans right m first))
