-- What a reader does to the queues of the lanes.
use Rattle.std.specs.Prelude.{◌≡◌, ℕ, ◌+◌, ◌<◌, List, [], ◌∷◌, ◌++◌, Option, length, flat_map, slice_index_or}
use Rattle.rtrb.specs.Ring.{sent, SameProducer}
use Rattle.rb_source.specs.Piece.{PieceContents}
use Rattle.rb_dealing.specs.Dealt.{DealtPiece, AreDealtAmong, contexts_in, dealt_to, dropped_in, saturated}
use Rattle.rb_dealing.specs.declared.lane.LaneFeed.{LaneFeed}
use Rattle.rb_dealing.specs.declared.reader.Dealing.{Dealing}

-- the contexts of the pieces in a queue, one after another
abbrev pub queued : List PieceContents → List (List ℕ)
queued pieces = flat_map (λ p. p.contexts) pieces

-- the lane's queue, with these contexts appended
abbrev pub GetsContexts : LaneFeed → List (List ℕ) → LaneFeed → Type 0
GetsContexts old contexts new = SameProducer old.pieces new.pieces × (queued (sent new.pieces) ≡ queued (sent old.pieces) ++ contexts)

-- each lane's queue got the contexts that were dealt to it, and nothing else
abbrev pub Fed : List LaneFeed → List DealtPiece → List LaneFeed → Type 0
Fed old pieces new =
    (length new ≡ length old) × ((k : ℕ) (d : LaneFeed) → k < length old → GetsContexts (slice_index_or old k d) (dealt_to k pieces) (slice_index_or new k d))

-- these pieces were dealt, and counted
pub record Deals (pieces : List DealtPiece) (old new : List LaneFeed) (before after : Dealing) : Type 0 where
  pub known : AreDealtAmong (length old) pieces
  pub fed : Fed old pieces new
  pub contexts_are : after.contexts ≡ saturated (before.contexts + length (contexts_in pieces))
  pub dropped_are : after.dropped ≡ saturated (before.dropped + length (dropped_in pieces))

-- a piece was dealt, to a lane or to none
abbrev pub DealsPiece : List (List ℕ) → List LaneFeed → List LaneFeed → Dealing → Dealing → Type 0
DealsPiece contexts old new before after = (worker : Option ℕ) × Deals (record { contexts = contexts; worker = worker } ∷ []) old new before after

-- pieces of the contexts that the source gave were dealt
abbrev pub DealsGiven : {I : Type 0} → (I → List (List ℕ) → I → Type 0) → I → I → List LaneFeed → List LaneFeed → Dealing → Dealing → Type 0
DealsGiven gives source later old new before after = (pieces : List DealtPiece) × gives source (contexts_in pieces) later × Deals pieces old new before after
