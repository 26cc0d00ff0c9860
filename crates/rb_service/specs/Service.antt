-- The effect of a service (own).
use Rattle.std.specs.Prelude.{ℕ, ◌≡◌, List}
use Rattle.std.specs.List.{AllZip}
use Rattle.rb_verifier.specs.Subject.{Subject}
use Rattle.rb_workers.specs.Sink.{SinkItem}
use Rattle.rb_workers.specs.declared.opened.Opened.{Opened}
use Rattle.rb_stream.specs.Streamed.{IsStreamedAs}
use Rattle.rb_stream.specs.declared.report.StreamReport.{StreamReport}
use Rattle.rb_stream_worker.specs.declared.when_full.Turns.{Turns}
use Rattle.rb_stream_worker.specs.declared.when_full.WhenFull.{WhenFull}
use Rattle.rb_stream_worker.specs.declared.when_full.WhenFull.TheVariants.{Refuse as RunAtOnce, Wait as WaitForRoom}
use Rattle.rb_waiting.specs.Plans.{IsPlan}
use Rattle.rb_service.specs.Rings.{IsFreshFor}
use Rattle.rb_service.specs.declared.rings.RingPlan.{RingPlan}
use Rattle.rb_service.specs.declared.service.Full.{Full}
use Rattle.rb_service.specs.declared.service.Full.TheVariants.{Refuse, Wait}
use Rattle.rb_service.specs.declared.service.ServiceRequest.{ServiceRequest}

-- what workers do before they run contexts: nothing, or they wait for room by a plan for these rings and programs
abbrev pub IsRequested : {S : Type 0} → Full → List (Opened S) → List Subject → WhenFull → Type 0
IsRequested Refuse opened programs full = full ≡ RunAtOnce
IsRequested Wait opened programs full = (turns : Turns) × (full ≡ WaitForRoom turns) × IsPlan opened programs turns

-- the programs were run over opened rings on each context that the source gave, by workers that waited for room if that
-- was requested: this is the report
pub record RunsAsRequested {S I : Type 0} (position : S → ℕ) (takes : S → SinkItem → S → Type 0) (gives : I → List (List ℕ) → I → Type 0) (opened : List (Opened S)) (programs : List Subject) (request : ServiceRequest) (source later : I) (report : StreamReport S) : Type 0 where
  pub full : WhenFull
  pub requested : IsRequested request.full opened programs full
  pub streamed : IsStreamedAs full position takes gives opened programs request.results source later report

-- rings were opened as planned, and the programs were run over them on each context that the source gave: this is the
-- report
pub record Serves {S I : Type 0} (position : S → ℕ) (takes : S → SinkItem → S → Type 0) (gives : I → List (List ℕ) → I → Type 0) (plans : List (RingPlan S)) (programs : List Subject) (request : ServiceRequest) (source later : I) (report : StreamReport S) : Type 0 where
  pub opened : List (Opened S)
  pub fresh : AllZip (IsFreshFor position request.workers) plans opened
  pub ran : RunsAsRequested position takes gives opened programs request source later report
