-- A stream: contexts that a source gives are dealt to workers, which run them (own).
use Rattle.std.specs.Prelude.{◌≡◌, ℕ, ◌<◌, List, length, slice_index_or, All}
use Rattle.rb_source.specs.declared.source.SourceFault.{SourceFault}
use Rattle.rb_dealing.specs.Dealt.{DealtPiece, AreDealtAmong, contexts_in, dealt_to, dropped_in, saturated}
use Rattle.rb_dealing.specs.declared.reader.Dealt.{Dealt}
use Rattle.rb_dealing.specs.declared.reader.DealEnd.{DealEnd}
use Rattle.rb_dealing.specs.declared.reader.DealEnd.TheVariants.{Over, Memory, Failed, Short}
use Rattle.rb_dealing.specs.declared.lane.Lane.{Lane}

-- Pieces of the contexts that the source gave, in order, were each dealt to one worker or dropped. Each worker ran
-- exactly the contexts that were dealt to it, each once and in order. All contexts and the dropped ones were counted.
pub record RunsStream {I W : Type 0} (gives : I → List (List ℕ) → I → Type 0) (ready : W → Type 0) (runs : W → List (List ℕ) → W → Type 0) (source later : I) (old new : List (Lane W)) (dealt : Dealt) : Type 0 where
  pub pieces : List DealtPiece
  pub gave : gives source (contexts_in pieces) later
  pub known : AreDealtAmong (length old) pieces
  pub as_many : length new ≡ length old
  pub ran : (k : ℕ) (d : Lane W) → k < length old → runs (slice_index_or old k d).worker (dealt_to k pieces) (slice_index_or new k d).worker
  pub ready_still : All (λ lane. ready lane.worker) new
  pub contexts_are : dealt.contexts ≡ saturated (length (contexts_in pieces))
  pub dropped_are : dealt.dropped ≡ saturated (length (dropped_in pieces))

-- the meaning of the end for the source
abbrev pub IsEndOf : {I : Type 0} → (I → Type 0) → (I → SourceFault → Type 0) → I → DealEnd → Type 0
IsEndOf over fails source Over = over source
IsEndOf over fails source (Failed fault) = fails source fault
IsEndOf over fails source Memory = Unit {0}
IsEndOf over fails source Short = Unit {0}
