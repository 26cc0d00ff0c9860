-- Why a service has no report (own).
use Rattle.std.specs.Prelude.{◌≡◌, ◌≤◌, ℕ, All, List, true, false}
use Rattle.std.specs.List.{AllZip}
use Rattle.rb_verifier.specs.Subject.{Subject}
use Rattle.rb_workers.specs.declared.opened.Opened.{Opened}
use Rattle.rb_stream.specs.Refusals.{has_other_length, has_unknown_ring}
use Rattle.rb_stream.specs.declared.report.StreamFault.{StreamFault}
use Rattle.rb_stream.specs.declared.report.StreamFault.TheVariants.{UnknownRing as StreamUnknownRing, ContextLength as StreamContextLength, NoWorker as StreamNoWorker, Memory as StreamMemory}
use Rattle.rb_waiting.specs.Faults.{IsFirstTooSmall}
use Rattle.rb_waiting.specs.declared.plan.SmallRing.{SmallRing}
use Rattle.rb_waiting.specs.declared.plan.TurnFault.{TurnFault}
use Rattle.rb_waiting.specs.declared.plan.TurnFault.TheVariants.{FewerRings as TurnFewerRings, TooSmall as TurnTooSmall, Memory as TurnMemory}
use Rattle.rb_service.specs.Rings.{IsFreshFor}
use Rattle.rb_service.specs.declared.rings.RingPlan.{RingPlan}
use Rattle.rb_service.specs.declared.service.Full.{Full}
use Rattle.rb_service.specs.declared.service.Full.TheVariants.{Wait}
use Rattle.rb_service.specs.declared.service.ServiceFault.{ServiceFault}
use Rattle.rb_service.specs.declared.service.ServiceFault.TheVariants.{Size, Workers, UnknownRing, ContextLength, NoRing, FewerRings, TooSmall, Memory}

-- how the fault of a stream is reported
abbrev pub reported_fault : StreamFault → ServiceFault
reported_fault StreamUnknownRing = UnknownRing
reported_fault StreamContextLength = ContextLength
reported_fault StreamNoWorker = NoRing
reported_fault StreamMemory = Memory

-- how the fault of a plan of turns is reported
abbrev pub reported_turn_fault : TurnFault → ServiceFault
reported_turn_fault TurnFewerRings = FewerRings
reported_turn_fault (TurnTooSmall small) = TooSmall small
reported_turn_fault TurnMemory = Memory

-- of the rings, opened as planned, this is the first that one context of every worker does not fit
pub record IsTooSmallFor {S : Type 0} (position : S → ℕ) (workers : ℕ) (plans : List (RingPlan S)) (programs : List Subject) (small : SmallRing) : Type 0 where
  pub opened : List (Opened S)
  pub fresh : AllZip (IsFreshFor position workers) plans opened
  pub too_small : IsFirstTooSmall opened programs small

-- Why so many rings, which may be opened, have no report: a program was verified for more of them than there are; or
-- for contexts of another length than the source gives; or workers are to wait for room, and a program was verified for
-- fewer rings, or a ring is too small. Only rings that may be opened get here.
abbrev pub IsRightFault : (rings : ℕ) → List Subject → (ctx_len : ℕ) → Full → (SmallRing → Type 0) → ServiceFault → Type 0
IsRightFault rings programs ctx_len full IsSmall (Size number) = ⊥
IsRightFault rings programs ctx_len full IsSmall Workers = ⊥
IsRightFault rings programs ctx_len full IsSmall UnknownRing = has_unknown_ring rings programs ≡ true
IsRightFault rings programs ctx_len full IsSmall ContextLength = (has_unknown_ring rings programs ≡ false) × (has_other_length ctx_len programs ≡ true)
IsRightFault rings programs ctx_len full IsSmall NoRing = Unit {0}
IsRightFault rings programs ctx_len full IsSmall FewerRings = (full ≡ Wait) × ¬ All (λ p. rings ≤ p.rings) programs
IsRightFault rings programs ctx_len full IsSmall (TooSmall small) = (full ≡ Wait) × IsSmall small
IsRightFault rings programs ctx_len full IsSmall Memory = Unit {0}
