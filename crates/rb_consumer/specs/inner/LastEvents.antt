-- The index of the last submitted record.
use Rattle.std.specs.Prelude.{ℕ, ◌≡◌, ◌+◌, ◌<◌, true, List, [], filter, length, drop}
use Rattle.std.specs.List.{slice_index_or as get_or}
use Rattle.rb_history.specs.declared.answers.Taken.{Taken}
use Rattle.rb_consumer.specs.Batches.{is_event}

-- at index i is an event, and after it there is none
pub record IsLastEvent (ts : List Taken) (i : ℕ) : Type 0 where
  pub within : i < length ts
  pub event : (d : Taken) → is_event (get_or ts i d) ≡ true
  pub last : filter is_event (drop (i + 1) ts) ≡ []
