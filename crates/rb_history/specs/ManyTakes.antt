-- Several takes in one call.
use Rattle.std.specs.Prelude.{ℕ, ◌≡◌, ◌<◌, ◌≤◌, ◌⊎◌, List, [], ◌∷◌, drop, length}
use Rattle.rb_history.specs.declared.answers.Taken.{Taken}
use Rattle.rb_history.specs.declared.answers.Taken.TheVariants.{Event, Skipped, BusyFront, Empty}
use Rattle.rb_history.specs.RingModel.{Ring}
use Rattle.rb_history.specs.Calls.{Takes, HasBusyFront, AllTaken}

-- the take found a record: it returned a submitted one, or skipped a discarded one
abbrev pub HasRecord : Taken → Type 0
HasRecord (Event p w k bytes) = Unit {0}
HasRecord (Skipped p n) = Unit {0}
HasRecord BusyFront = ⊥
HasRecord Empty = ⊥

-- a sequence of takes, each on the ring that the previous one left, and each of which found a record
abbrev pub TakesEach : Ring → List Taken → Ring → Type 0
TakesEach old [] new = new ≡ old
TakesEach old (t ∷ ts) new = (next : Ring) × Takes old next t × HasRecord t × TakesEach next ts new

-- up to n takes, which found these records in this order; fewer only if the front is then busy, or no record is left
pub record TakesMany (n : ℕ) (taken : List Taken) (old new : Ring) : Type 0 where
  pub each : TakesEach old taken new
  pub within : length taken ≤ n
  pub stops : length taken < n → HasBusyFront new ⊎ AllTaken new

-- what was pushed onto a list: its items without those that it had before
abbrev pub pushed : List Taken → List Taken → List Taken
pushed before after = drop (length before) after
