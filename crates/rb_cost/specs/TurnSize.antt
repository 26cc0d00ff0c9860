-- The number of contexts that a worker may run in a turn, and the smallest ring in which it may run one (own).
use Rattle.std.specs.Prelude.{◌≡◌, ◌≢◌, ℕ, ◌*◌, ◌<◌, ◌≤◌, nat_lt, List, [], ◌∷◌, find, Option, Some, None, if◌then◌else◌}
use Rattle.rb_history.specs.RingModel.{IsRingSize}
use Rattle.rb_cost.specs.RingSize.{least_ring}

-- the lengths from which a turn's length is chosen, longest first
abbrev pub turn_lengths : List ℕ
turn_lengths = 16 ∷ 8 ∷ 4 ∷ 2 ∷ []

abbrev pub or_one : Option ℕ → ℕ
or_one None = 1
or_one (Some n) = n

-- Each context requests at most `cost` bytes from the ring. If one context of every worker fits the ring, a turn has
-- the most contexts for which the turns of all workers together leave more than half of the ring, and at least one. So
-- workers begin turns while the consumer still has records to take.
abbrev pub contexts_at_once : ℕ → ℕ → ℕ → Option ℕ
contexts_at_once size workers cost =
    if nat_lt (workers * cost) size then Some (or_one (find (λ n. nat_lt (2 * n * (workers * cost)) size) turn_lengths)) else None

-- a turn has 1 to 16 contexts, and the turns of all workers fit the empty ring; there is no turn only if one context of
-- every worker does not fit
abbrev pub IsTurnLength : ℕ → ℕ → ℕ → Option ℕ → Type 0
IsTurnLength size workers cost (Some n) = (1 ≤ n) × (n ≤ 16) × (workers * (n * cost) < size)
IsTurnLength size workers cost None = size ≤ workers * cost

abbrev pub TurnsFit : Type 0
TurnsFit = (size workers cost : ℕ) → IsTurnLength size workers cost (contexts_at_once size workers cost)

-- The smallest ring larger than what one context of every worker requests is the smallest in which turns are possible.
abbrev pub LeastRingsHaveTurns : Type 0
LeastRingsHaveTurns =
    (size workers cost least : ℕ) → IsRingSize size → least_ring (workers * cost) ≡ Some least
    → (least ≤ size → contexts_at_once size workers cost ≢ None) × (size < least → contexts_at_once size workers cost ≡ None)
