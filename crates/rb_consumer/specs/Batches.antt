-- The contents of a batch, and what it lends and returns (own).
use Rattle.std.specs.Prelude.{ℕ, ◌≡◌, ◌≤◌, Bool, true, false, List, [], ◌∷◌, ◌++◌, Option, None, Some, filter, length, nat_lt}
use Rattle.rb_history.specs.declared.answers.Taken.{Taken}
use Rattle.rb_history.specs.declared.answers.Taken.TheVariants.{Event}
use Rattle.rb_tape.specs.declared.item.Event as lent
use Rattle.rb_tape.specs.Items.{event_taken, AreRecords}

-- a batch: its capacity in records, and what was taken into it
pub record BatchValue : Type 0 where
  pub capacity : ℕ
  pub taken : List Taken

-- the invariant of a batch
pub record IsBatch (b : BatchValue) : Type 0 where
  pub records : AreRecords b.taken
  pub within : length b.taken ≤ b.capacity

abbrev pub is_event : Taken → Bool
is_event (Event p w k bytes) = true
is_event _ = false

-- a submitted record of more than n bytes
abbrev pub is_longer_event : ℕ → Taken → Bool
is_longer_event n (Event p w k bytes) = nat_lt n (length bytes)
is_longer_event n _ = false

-- the next event, of those that are left
abbrev pub LendsEvent : List Taken → List Taken → Option lent.Event → Type 0
LendsEvent old new None = (old ≡ []) × (new ≡ [])
LendsEvent old new (Some e) = old ≡ event_taken e ∷ new

-- the last event is removed and its bytes are returned; none if there is no event
pub record GivesLastEvent (old new : List Taken) (bytes : List ℕ) : Type 0 where
  pub front : List Taken
  pub back : List Taken
  pub pos : ℕ
  pub worker : ℕ
  pub serial : ℕ
  pub old_is : old ≡ front ++ Event pos worker serial bytes ∷ back
  pub new_is : new ≡ front ++ back
  pub last : filter is_event back ≡ []

abbrev pub Recycles : List Taken → List Taken → Option (List ℕ) → Type 0
Recycles old new None = (filter is_event old ≡ []) × (new ≡ old)
Recycles old new (Some bytes) = GivesLastEvent old new bytes
