-- Why there is no plan (own).
use Rattle.std.specs.Prelude.{ℕ, ◌*◌, ◌<◌, List, length, slice_index_or}
use Rattle.std.specs.List.{AllZip}
use Rattle.rb_history.specs.RoomRule.{Setup}
use Rattle.rb_verifier.specs.Subject.{Subject}
use Rattle.rb_cost.specs.declared.cost.Cost.{Cost}
use Rattle.rb_cost.specs.Cost.{IsCost}
use Rattle.rb_cost.specs.RingSize.{IsLeastRing}
use Rattle.rb_workers.specs.declared.opened.Opened.{Opened}
use Rattle.rb_waiting.specs.Plans.{bytes_asked}
use Rattle.rb_waiting.specs.declared.plan.SmallRing.{SmallRing}

-- one context of every worker fits the empty ring, if it requests at most this many bytes; one byte of a ring always
-- stays free
abbrev pub FitsOneEach : Setup → ℕ → Type 0
FitsOneEach r bytes = r.workers * bytes < r.size

-- The first ring that one context of every worker does not fit, by the costs of all programs together, and the size of
-- the smallest ring that it fits, if there is one.
pub record IsFirstTooSmall {S : Type 0} (opened : List (Opened S)) (programs : List Subject) (small : SmallRing) : Type 0 where
  pub costs : List Cost
  pub costs_are : AllZip IsCost programs costs
  pub inside : small.ring < length opened
  pub too_small : (o : Opened S) → ¬ FitsOneEach (slice_index_or opened small.ring o).consumer.seen.setup (bytes_asked costs small.ring)
  pub first : (k : ℕ) (o : Opened S) → k < small.ring → FitsOneEach (slice_index_or opened k o).consumer.seen.setup (bytes_asked costs k)
  pub least : (o : Opened S) → IsLeastRing ((slice_index_or opened small.ring o).consumer.seen.setup.workers * bytes_asked costs small.ring) small.least
