-- What each call of a ring requires, adds to its history, and changes in its contents.
use Rattle.std.specs.Prelude.{ℕ, ◌≡◌, true, List, [], ◌∷◌, ◌++◌, length, Some}
use Rattle.std.specs.List.{Contains}
use Rattle.std.specs.FinMap.{get, insert, remove}
use Rattle.rb_history.specs.declared.entries.Entry.{Entry}
use Rattle.rb_history.specs.declared.entries.Entry.TheVariants.{Res, Full, Sub, Dis, Take}
use Rattle.rb_history.specs.declared.answers.Taken.{Taken}
use Rattle.rb_history.specs.declared.answers.Taken.TheVariants.{Event, Skipped, BusyFront, Empty}
use Rattle.rb_history.specs.declared.answers.NoGrant.{NoGrant}
use Rattle.rb_history.specs.declared.answers.NoGrant.TheVariants.{Full as FaultFull, Memory as FaultMemory, Flags as FaultFlags}
use Rattle.rb_history.specs.History.{status_of, is_granted_at, grants, producer_of, consumer_of}
use Rattle.rb_history.specs.History.Status.{Busy, Waiting, Discarded}
use Rattle.rb_history.specs.ReservationModel.{Granted}
use Rattle.rb_history.specs.RoomRule.{HasRoomFor}
use Rattle.rb_history.specs.RingModel.{Ring, HasLength}

-- ---- the current state of a ring's history

abbrev pub producer_now : Ring → ℕ
producer_now v = producer_of v.setup.start v.history

abbrev pub consumer_now : Ring → ℕ
consumer_now v = consumer_of v.setup.start v.history

abbrev pub RingHasRoom : Ring → ℕ → Type 0
RingHasRoom v n = HasRoomFor v.setup v.history n

-- a record with these four numbers is busy
pub record IsBusy (h : List Entry) (p w k n : ℕ) : Type 0 where
  pub granted_is : Contains h (Res w k n p)
  pub busy : status_of h p ≡ Busy

-- the record of the reservation is busy
abbrev pub HoldsReservation : Ring → Granted → Type 0
HoldsReservation v r = IsBusy v.history r.pos r.worker r.serial (length r.bytes)

-- the record at the consumer position is busy
pub record HasBusyFront (v : Ring) : Type 0 where
  pub granted_is : is_granted_at v.history (consumer_now v) ≡ true
  pub busy : status_of v.history (consumer_now v) ≡ Busy

-- every record was taken
abbrev pub AllTaken : Ring → Type 0
AllTaken v = producer_now v ≡ consumer_now v

-- the entries were appended to the history, and the ring's parameters did not change
pub record Logs (old new : Ring) (entries : List Entry) : Type 0 where
  pub setup_same : new.setup ≡ old.setup
  pub history_is : new.history ≡ old.history ++ entries

-- ---- reserve and output

-- a record of n bytes was granted to worker w, at position p with serial k
pub record Grants (old new : Ring) (w n p k : ℕ) : Type 0 where
  pub room : RingHasRoom old n
  pub position : p ≡ producer_now old
  pub serial : k ≡ grants w old.history
  pub logged : Logs old new (Res w k n p ∷ [])
  pub contents_same : new.contents ≡ old.contents

-- there is no room for a record of n bytes, and the refusal is logged
pub record FindsFull (old new : Ring) (w n : ℕ) : Type 0 where
  pub no_room : ¬ RingHasRoom old n
  pub logged : Logs old new (Full w n ∷ [])
  pub contents_same : new.contents ≡ old.contents

-- a record of these bytes was granted and submitted in one call
pub record Outputs (old new : Ring) (w : ℕ) (bytes : List ℕ) : Type 0 where
  pub room : RingHasRoom old (length bytes)
  pub logged : Logs old new (Res w (grants w old.history) (length bytes) (producer_now old) ∷ Sub (producer_now old) ∷ [])
  pub contents_are : new.contents ≡ insert old.contents (producer_now old) bytes

-- the reason why no record of n bytes was granted holds
abbrev pub Refuses : Ring → Ring → ℕ → ℕ → NoGrant → Type 0
Refuses old new w n FaultFull = FindsFull old new w n
Refuses old new w n FaultMemory = new ≡ old
Refuses old new w n FaultFlags = new ≡ old

-- ---- submit and discard

-- the record of the reservation was submitted, with its bytes
pub record Submits (old new : Ring) (r : Granted) : Type 0 where
  pub was_busy : HoldsReservation old r
  pub logged : Logs old new (Sub r.pos ∷ [])
  pub contents_are : new.contents ≡ insert old.contents r.pos r.bytes

-- the record of the reservation was discarded
pub record Discards (old new : Ring) (r : Granted) : Type 0 where
  pub was_busy : HoldsReservation old r
  pub logged : Logs old new (Dis r.pos ∷ [])
  pub contents_same : new.contents ≡ old.contents

-- no busy record has the four numbers of the reservation
pub record Strays (old new : Ring) (r : Granted) : Type 0 where
  pub not_busy : ¬ HoldsReservation old r
  pub same : new ≡ old

-- ---- take

-- the waiting record at the consumer position was taken, and its bytes are returned
pub record TakesEvent (old new : Ring) (p w k : ℕ) (bytes : List ℕ) : Type 0 where
  pub front : p ≡ consumer_now old
  pub granted_is : Contains old.history (Res w k (length bytes) p)
  pub waiting : status_of old.history p ≡ Waiting
  pub bytes_are : get old.contents p ≡ Some bytes
  pub logged : Logs old new (Take p ∷ [])
  pub contents_are : new.contents ≡ remove old.contents p

-- the discarded record at the consumer position was skipped
pub record Skips (old new : Ring) (p n : ℕ) : Type 0 where
  pub front : p ≡ consumer_now old
  pub granted_is : HasLength old.history p n
  pub discarded : status_of old.history p ≡ Discarded
  pub logged : Logs old new (Take p ∷ [])
  pub contents_same : new.contents ≡ old.contents

pub record FindsBusyFront (old new : Ring) : Type 0 where
  pub front : HasBusyFront old
  pub same : new ≡ old

pub record FindsEmpty (old new : Ring) : Type 0 where
  pub all_taken : AllTaken old
  pub same : new ≡ old

abbrev pub Takes : Ring → Ring → Taken → Type 0
Takes old new (Event p w k bytes) = TakesEvent old new p w k bytes
Takes old new (Skipped p n) = Skips old new p n
Takes old new BusyFront = FindsBusyFront old new
Takes old new Empty = FindsEmpty old new
