-- Turns for which there is room: how much room each worker waits for (own).
use Rattle.std.specs.Prelude.{◌≡◌, ℕ, ◌+◌, ◌*◌, ◌<◌, ◌≤◌, ◌⊎◌, List, Option, Some, length, slice_index_or}
use Rattle.std.specs.List.{All, AllZip, sum_by}
use Rattle.rb_verifier.specs.Subject.{Subject}
use Rattle.rb_cost.specs.declared.cost.Cost.{Cost}
use Rattle.rb_cost.specs.Cost.{IsCost}
use Rattle.rb_cost.specs.Runs.{ring_cost_at}
use Rattle.rb_cost.specs.TurnSize.{contexts_at_once}
use Rattle.rb_run_cost.specs.CallCosts.{IsVerified}
use Rattle.rb_history.specs.RoomRule.{Setup}
use Rattle.rb_stream_worker.specs.declared.when_full.Turns.{Turns}
use Rattle.rb_workers.specs.declared.opened.Opened.{Opened}

-- the maximal number of bytes of a ring that programs of these costs request together over one context: the spans of
-- their records
abbrev pub bytes_asked : List Cost → ℕ → ℕ
bytes_asked costs ring = sum_by (λ c. (ring_cost_at c ring).bytes) costs

-- A ring with at most `limit` untaken bytes has room for a turn of every worker, each of which requests at most `turn`
-- bytes; one byte of a ring always stays free. With one byte more it would not have room.
abbrev pub LeavesRoom : Setup → (turn limit : ℕ) → Type 0
LeavesRoom r turn limit = limit + r.workers * turn + 1 ≡ r.size

-- Each program is verified, uses at least these rings, and has its cost. A turn has at least one context. By the limit
-- of each ring, a turn begins only when the ring has room for a turn of every worker: for as many contexts as a turn
-- has, each of which is run by all programs.
pub record IsPlan {S : Type 0} (opened : List (Opened S)) (programs : List Subject) (turns : Turns) : Type 0 where
  pub costs : List Cost
  pub costs_are : AllZip IsCost programs costs
  pub verified : All IsVerified programs
  pub knows : All (λ p. length opened ≤ p.rings) programs
  pub some : 1 ≤ turns.contexts
  pub as_many : length turns.limits.items ≡ length opened
  pub leaves_room : (k d : ℕ) (o : Opened S) → k < length opened
      → LeavesRoom (slice_index_or opened k o).consumer.seen.setup (turns.contexts * bytes_asked costs k) (slice_index_or turns.limits.items k d)

-- how many contexts a turn has by one ring alone, if a context requests at most `bytes` there
abbrev pub contexts_by : Setup → (bytes : ℕ) → Option ℕ
contexts_by r bytes = contexts_at_once r.size r.workers bytes

-- Turns are as long as each ring allows, by the costs of all programs together, and have at most 16 contexts.
pub record IsLongest {S : Type 0} (opened : List (Opened S)) (programs : List Subject) (contexts : ℕ) : Type 0 where
  pub costs : List Cost
  pub costs_are : AllZip IsCost programs costs
  pub within : (k : ℕ) (o : Opened S) → k < length opened → (n : ℕ) × (contexts_by (slice_index_or opened k o).consumer.seen.setup (bytes_asked costs k) ≡ Some n) × (contexts ≤ n)
  pub reached : (contexts ≡ 16)
      ⊎ ((k : ℕ) × (k < length opened) × ((o : Opened S) → contexts_by (slice_index_or opened k o).consumer.seen.setup (bytes_asked costs k) ≡ Some contexts))
