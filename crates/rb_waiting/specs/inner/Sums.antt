-- The sums of what programs request from rings.
use Rattle.std.specs.Prelude.{◌≡◌, ℕ, ◌+◌, ◌-◌, ◌*◌, ◌<◌, ◌≤◌, ◌^◌, ◌⊎◌, List, Some, length, min, slice_index_or}
use Rattle.std.specs.List.{AllZip}
use Rattle.rb_verifier.specs.Subject.{Subject}
use Rattle.rb_cost.specs.declared.cost.Cost.{Cost}
use Rattle.rb_cost.specs.Cost.{IsCost}
use Rattle.rb_cost.specs.RingSize.{least_ring}
use Rattle.rb_cost.specs.Runs.{ring_cost_at}
use Rattle.rb_workers.specs.declared.opened.Opened.{Opened}
use Rattle.rb_waiting.specs.Plans.{bytes_asked, contexts_by}
use Rattle.rb_waiting.specs.declared.plan.SmallRing.{SmallRing}

-- a 64-bit sum, which saturates at the greatest number
abbrev pub capped : ℕ → ℕ
capped n = min n (2 ^ 64 - 1)

-- the bytes of a cost were added for each ring
abbrev pub AddsCost : Cost → List ℕ → List ℕ → Type 0
AddsCost cost olds news = (k d : ℕ) → k < length olds → slice_index_or news k d ≡ capped (slice_index_or olds k d + (ring_cost_at cost k).bytes)

-- for each ring, the sum of what these costs request from it
abbrev pub SumsUp : List Cost → ℕ → List ℕ → Type 0
SumsUp costs rings sums = (k d : ℕ) → k < rings → slice_index_or sums k d ≡ capped (bytes_asked costs k)

-- the sums are those of the programs' costs
pub record AreSums (programs : List Subject) (rings : ℕ) (sums : List ℕ) : Type 0 where
  pub costs : List Cost
  pub costs_are : AllZip IsCost programs costs
  pub many : length sums ≡ rings
  pub sums_are : SumsUp costs rings sums

-- turns of this many contexts, one of every worker, fit each empty ring
pub record FitsTurns {S : Type 0} (opened : List (Opened S)) (sums : List ℕ) (contexts : ℕ) : Type 0 where
  pub some : 1 ≤ contexts
  pub few : contexts ≤ 16
  pub workers : (k : ℕ) (o : Opened S) → k < length opened → 1 ≤ (slice_index_or opened k o).consumer.seen.setup.workers
  pub small : (k : ℕ) (o : Opened S) → k < length opened → (slice_index_or opened k o).consumer.seen.setup.size < 2 ^ 64
  pub fits : (k s : ℕ) (o : Opened S) → k < length opened → (slice_index_or opened k o).consumer.seen.setup.workers * (contexts * slice_index_or sums k s) < (slice_index_or opened k o).consumer.seen.setup.size

-- by these sums, the first ring that one context of every worker does not fit, and the smallest ring that it fits
pub record IsFirstSmall {S : Type 0} (opened : List (Opened S)) (sums : List ℕ) (small : SmallRing) : Type 0 where
  pub inside : small.ring < length opened
  pub workers : (k : ℕ) (o : Opened S) → k ≤ small.ring → 1 ≤ (slice_index_or opened k o).consumer.seen.setup.workers
  pub below : (k : ℕ) (o : Opened S) → k < small.ring → (slice_index_or opened k o).consumer.seen.setup.size < 2 ^ 64
  pub fits : (k s : ℕ) (o : Opened S) → k < small.ring → (slice_index_or opened k o).consumer.seen.setup.workers * slice_index_or sums k s < (slice_index_or opened k o).consumer.seen.setup.size
  pub too_small : (s : ℕ) (o : Opened S) → (slice_index_or opened small.ring o).consumer.seen.setup.size ≤ (slice_index_or opened small.ring o).consumer.seen.setup.workers * slice_index_or sums small.ring s
  pub least : (s : ℕ) (o : Opened S) → small.least ≡ least_ring ((slice_index_or opened small.ring o).consumer.seen.setup.workers * slice_index_or sums small.ring s)

-- by these sums, turns of this many contexts are as long as each of the first rings allows
pub record AreLongest {S : Type 0} (opened : List (Opened S)) (sums : List ℕ) (rings contexts : ℕ) : Type 0 where
  pub within : (k s : ℕ) (o : Opened S) → k < rings → (n : ℕ) × (contexts_by (slice_index_or opened k o).consumer.seen.setup (slice_index_or sums k s) ≡ Some n) × (contexts ≤ n)
  pub reached : (contexts ≡ 16)
      ⊎ ((k : ℕ) × (k < rings) × ((s : ℕ) (o : Opened S) → contexts_by (slice_index_or opened k o).consumer.seen.setup (slice_index_or sums k s) ≡ Some contexts))
