-- The sizes of rings for workers that wait for room (own).
use Rattle.std.specs.Prelude.{◌≡◌, ◌≢◌, ℕ, zero, suc, ◌*◌, ◌<◌, ◌≤◌, List, [], ◌++◌, codes, Option, Some, None, length, slice_index_or}
use Rattle.std.specs.Fmt.{decimal}
use Rattle.rb_json.specs.declared.form.LineForm.{LineForm}
use Rattle.rb_json.specs.declared.form.LineForm.TheVariants.{Words, Json}
use Rattle.rb_history.specs.RingModel.{IsRingSize}
use Rattle.rb_cost.specs.Cost.{no_ring_cost}
use Rattle.rb_cost.specs.RingSize.{least_ring}
use Rattle.rb_cost.specs.TurnSize.{contexts_at_once}
use Rattle.rb_cost.specs.declared.cost.Cost.{Cost}
use Rattle.rb_cost.specs.declared.cost.RingCost.{RingCost}
use Rattle.rb_waiting.specs.declared.waiting_sizes.TurnSizes.{TurnSizes}

-- Turns are possible if one context of every worker fits the ring. A turn has 16 contexts if the turns of all workers
-- leave more than half of the ring.
abbrev pub turn_sizes : (workers bytes : ℕ) → TurnSizes
turn_sizes workers bytes = record { smallest = least_ring (workers * bytes); longest = least_ring (32 * (workers * bytes)) }

-- of all sizes of rings, those from this one on have turns
abbrev pub TurnsNeed : (workers bytes : ℕ) → Option ℕ → Type 0
TurnsNeed workers bytes None = (size : ℕ) → IsRingSize size → contexts_at_once size workers bytes ≡ None
TurnsNeed workers bytes (Some least) = (size : ℕ) → IsRingSize size → (least ≤ size → contexts_at_once size workers bytes ≢ None) × (size < least → contexts_at_once size workers bytes ≡ None)

-- of all sizes of rings, those from this one on have turns of 16 contexts
abbrev pub LongTurnsNeed : (workers bytes : ℕ) → Option ℕ → Type 0
LongTurnsNeed workers bytes None = (size : ℕ) → IsRingSize size → contexts_at_once size workers bytes ≢ Some 16
LongTurnsNeed workers bytes (Some least) =
    (size : ℕ) → IsRingSize size → (least ≤ size → contexts_at_once size workers bytes ≡ Some 16) × (size < least → contexts_at_once size workers bytes ≢ Some 16)

abbrev pub TurnsNeedTheirSizes : Type 0
TurnsNeedTheirSizes =
    (workers bytes : ℕ) → TurnsNeed workers bytes (turn_sizes workers bytes).smallest × LongTurnsNeed workers bytes (turn_sizes workers bytes).longest

-- ---- lines

-- no ring is large enough for turns of this many contexts
abbrev pub none_text : LineForm → (ring turn : ℕ) → List ℕ
none_text Words ring turn = codes "ring " ++ decimal ring ++ codes " turn " ++ decimal turn ++ codes " size none\n"
none_text Json ring turn = codes "{\"ring\":" ++ decimal ring ++ codes ",\"turn\":" ++ decimal turn ++ codes ",\"size\":null}\n"

-- the size of a ring whose turns have this many contexts, or that none is large enough
abbrev pub size_text : LineForm → (ring turn : ℕ) → Option ℕ → List ℕ
size_text form ring turn None = none_text form ring turn
size_text Words ring turn (Some size) = codes "ring " ++ decimal ring ++ codes " turn " ++ decimal turn ++ codes " size " ++ decimal size ++ codes "\n"
size_text Json ring turn (Some size) = codes "{\"ring\":" ++ decimal ring ++ codes ",\"turn\":" ++ decimal turn ++ codes ",\"size\":" ++ decimal size ++ codes "}\n"

-- both sizes of a ring
abbrev pub ring_text : LineForm → (ring workers bytes : ℕ) → List ℕ
ring_text form ring workers bytes = size_text form ring 1 (turn_sizes workers bytes).smallest ++ size_text form ring 16 (turn_sizes workers bytes).longest

-- the lines of the rings below a number
abbrev pub rings_text : LineForm → (workers : ℕ) → List RingCost → ℕ → List ℕ
rings_text form workers costs zero = []
rings_text form workers costs (suc ring) = rings_text form workers costs ring ++ ring_text form ring workers (slice_index_or costs ring no_ring_cost).bytes

-- the lines of a cost
abbrev pub turn_sizes_text : LineForm → (workers : ℕ) → Cost → List ℕ
turn_sizes_text form workers cost = rings_text form workers cost.rings.items (length cost.rings.items)
