-- The result of a service, composed of the contracts of its calls.
use Rattle.std.proofs.Common.{◌≡◌, ◌≢◌, ◌≤◌, ℕ, List, Result, Err, true, false, refl, sym, ap, subst, ◌∙◌}
use Rattle.std.specs.Prelude.{◌↔◌, All, IfErr, IsErrOf}
use Rattle.rb_history.specs.RingModel.{IsRingSize}
use Rattle.rb_verifier.specs.Subject.{Subject}
use Rattle.rb_stream.specs.Refusals.{has_other_length, has_unknown_ring}
use Rattle.rb_stream.specs.declared.report.StreamFault.{StreamFault}
use Rattle.rb_stream.specs.declared.report.StreamFault.TheVariants.{UnknownRing as StreamUnknownRing, ContextLength as StreamContextLength, NoWorker as StreamNoWorker, Memory as StreamMemory}
use Rattle.rb_waiting.specs.declared.plan.SmallRing.{SmallRing}
use Rattle.rb_waiting.specs.declared.plan.TurnFault.{TurnFault}
use Rattle.rb_waiting.specs.declared.plan.TurnFault.TheVariants.{FewerRings as TurnFewerRings, TooSmall as TurnTooSmall, Memory as TurnMemory}
use Rattle.rb_service.specs.Faults.{IsRightFault, reported_fault, reported_turn_fault}
use Rattle.rb_service.specs.Rings.{IsFirstWrong}
use Rattle.rb_service.specs.declared.service.Full.{Full}
use Rattle.rb_service.specs.declared.service.Full.TheVariants.{Refuse, Wait}
use Rattle.rb_service.specs.declared.rings.PlanFault.{PlanFault}
use Rattle.rb_service.specs.declared.rings.PlanFault.TheVariants.{Size as PlanSize, Workers as PlanWorkers}
use Rattle.rb_service.specs.declared.rings.RingPlan.{RingPlan}
use Rattle.rb_service.specs.declared.service.ServiceFault.{ServiceFault}
use Rattle.rb_service.specs.declared.service.ServiceFault.TheVariants.{Size, Workers, UnknownRing, ContextLength, NoRing, FewerRings, TooSmall, Memory}

same_size : {T : Type 0} (n m : ℕ) → ◌≡◌ {A = Result T ServiceFault} (Err (Size n)) (Err (Size m)) → n ≡ m
same_size n m e = cc

same_plan_size : {T : Type 0} (n m : ℕ) → ◌≡◌ {A = Result T PlanFault} (Err (PlanSize n)) (Err (PlanSize m)) → n ≡ m
same_plan_size n m e = cc

plan_size_no_workers : {T : Type 0} (n : ℕ) → ◌≡◌ {A = Result T PlanFault} (Err (PlanSize n)) (Err PlanWorkers) → ⊥
plan_size_no_workers n e = cc

size_no_workers : {T : Type 0} (n : ℕ) → ◌≡◌ {A = Result T ServiceFault} (Err (Size n)) (Err Workers) → ⊥
size_no_workers n e = cc

module _ {S T : Type 0} (slice plans : List (RingPlan S)) (W : Type 0) (same : slice ≡ plans) (answer : Result (Unit {0}) PlanFault)
    (sizes : (m : ℕ) → IsErrOf answer (PlanSize m) ↔ IsFirstWrong slice m) (workers : IsErrOf answer PlanWorkers ↔ (All (λ p. IsRingSize p.size) slice × ¬ W)) where
  -- the number of a wrong plan is passed on
  pub size_handed_on : (n : ℕ) → answer ≡ Err (PlanSize n) → (m : ℕ) → IsErrOf {T = T} (Err (Size n)) (Size m) ↔ IsFirstWrong plans m
  size_handed_on n is m = (
    (λ e. subst (λ (l : List (RingPlan S)). IsFirstWrong l m) same ((sizes m).0 (is ∙ ap (λ k. Err (PlanSize k)) (same_size n m e)))),
    (λ first. ap (λ k. Err (Size k)) (same_plan_size n m (sym is ∙ (sizes m).1 (subst (λ (l : List (RingPlan S)). IsFirstWrong l m) (sym same) first)))),
  )

  pub size_hides_workers : (n : ℕ) → answer ≡ Err (PlanSize n) → IsErrOf {T = T} (Err (Size n)) Workers ↔ (All (λ p. IsRingSize p.size) plans × ¬ W)
  size_hides_workers n is = (
    (λ e. absurd (size_no_workers n e)),
    (λ h. absurd (plan_size_no_workers n (sym is ∙ workers.1 (subst (λ (l : List (RingPlan S)). All (λ (p : RingPlan S). IsRingSize p.size) l) (sym same) h.0, h.1)))),
  )

  pub workers_hide_size : answer ≡ Err PlanWorkers → (m : ℕ) → IsErrOf {T = T} (Err Workers) (Size m) ↔ IsFirstWrong plans m
  workers_hide_size is m = (
    (λ e. absurd (size_no_workers m (sym e))),
    (λ first. absurd (plan_size_no_workers m (sym ((sizes m).1 (subst (λ (l : List (RingPlan S)). IsFirstWrong l m) (sym same) first)) ∙ is))),
  )

  pub workers_handed_on : answer ≡ Err PlanWorkers → IsErrOf {T = T} (Err Workers) Workers ↔ (All (λ p. IsRingSize p.size) plans × ¬ W)
  workers_handed_on is = ((λ e. (let h = workers.0 is in (subst (λ (l : List (RingPlan S)). All (λ (p : RingPlan S). IsRingSize p.size) l) same h.0, h.1))), λ h. refl)

-- what holds of every error holds of this one
pub of_error : {T E : Type 0} (P : E → Type 0) (answer : Result T E) (error : E) → IfErr answer P → IsErrOf answer error → P error
of_error {T} {E} P answer error holds is = subst (λ (r : Result T E). IfErr r P) is holds

module _ (rings : ℕ) (programs : List Subject) (ctx_len : ℕ) (full : Full) (IsSmall : SmallRing → Type 0) where
  -- a stream's fault is right for the rings
  reported_right : (stop : StreamFault) → (stop ≡ StreamUnknownRing → has_unknown_ring rings programs ≡ true) → (stop ≡ StreamContextLength → (has_unknown_ring rings programs ≡ false) × (has_other_length ctx_len programs ≡ true))
      → IsRightFault rings programs ctx_len full IsSmall (reported_fault stop)
  reported_right StreamUnknownRing unknown other = unknown refl
  reported_right StreamContextLength unknown other = other refl
  reported_right StreamNoWorker unknown other = tt
  reported_right StreamMemory unknown other = tt

  pub stream_fault_right : (stop : StreamFault) (fault : ServiceFault) → fault ≡ reported_fault stop → (stop ≡ StreamUnknownRing → has_unknown_ring rings programs ≡ true)
      → (stop ≡ StreamContextLength → (has_unknown_ring rings programs ≡ false) × (has_other_length ctx_len programs ≡ true)) → IsRightFault rings programs ctx_len full IsSmall fault
  stream_fault_right stop fault is unknown other = subst (IsRightFault rings programs ctx_len full IsSmall) (sym is) (reported_right stop unknown other)

  -- a plan's fault is right for the rings
  planned_right : (stop : TurnFault) → full ≡ Wait → (stop ≡ TurnFewerRings → ¬ All (λ p. rings ≤ p.rings) programs) → ((small : SmallRing) → stop ≡ TurnTooSmall small → IsSmall small)
      → IsRightFault rings programs ctx_len full IsSmall (reported_turn_fault stop)
  planned_right TurnFewerRings waits fewer small = (waits, fewer refl)
  planned_right (TurnTooSmall ring) waits fewer small = (waits, small ring refl)
  planned_right TurnMemory waits fewer small = tt

  pub turn_fault_right : (stop : TurnFault) (fault : ServiceFault) → fault ≡ reported_turn_fault stop → full ≡ Wait → (stop ≡ TurnFewerRings → ¬ All (λ p. rings ≤ p.rings) programs) → ((small : SmallRing) → stop ≡ TurnTooSmall small → IsSmall small)
      → IsRightFault rings programs ctx_len full IsSmall fault
  turn_fault_right stop fault is waits fewer small = subst (IsRightFault rings programs ctx_len full IsSmall) (sym is) (planned_right stop waits fewer small)

-- what is right for opened rings is right for their plans
pub right_for_plans : (opened plans : ℕ) (programs : List Subject) (ctx_len : ℕ) (full : Full) (Opened Planned : SmallRing → Type 0) (fault : ServiceFault) → opened ≡ plans → ((small : SmallRing) → Opened small → Planned small)
    → IsRightFault opened programs ctx_len full Opened fault → IsRightFault plans programs ctx_len full Planned fault
right_for_plans opened plans programs ctx_len full Opened Planned (Size number) same small right = right
right_for_plans opened plans programs ctx_len full Opened Planned Workers same small right = right
right_for_plans opened plans programs ctx_len full Opened Planned UnknownRing same small right = subst (λ n. has_unknown_ring n programs ≡ true) same right
right_for_plans opened plans programs ctx_len full Opened Planned ContextLength same small right = (subst (λ n. has_unknown_ring n programs ≡ false) same right.0, right.1)
right_for_plans opened plans programs ctx_len full Opened Planned NoRing same small right = right
right_for_plans opened plans programs ctx_len full Opened Planned FewerRings same small right = (right.0, subst (λ n. ¬ All (λ (p : Subject). n ≤ p.rings) programs) same right.1)
right_for_plans opened plans programs ctx_len full Opened Planned (TooSmall ring) same small right = (right.0, small ring right.1)
right_for_plans opened plans programs ctx_len full Opened Planned Memory same small right = right

reported_memory : (fault : StreamFault) → fault ≡ StreamMemory → reported_fault fault ≡ Memory
reported_memory fault e = ap reported_fault e

pub is_memory : (stop : StreamFault) (fault : ServiceFault) → fault ≡ reported_fault stop → fault ≢ Memory → stop ≢ StreamMemory
is_memory stop fault is other e = other (is ∙ reported_memory stop e)

-- workers that are to run at once are not to wait
pub refuses_or_waits : Refuse ≡ Wait → ⊥
refuses_or_waits e = cc
