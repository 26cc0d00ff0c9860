-- One entry is the step of one call of a ring.
use Rattle.std.specs.Prelude.{ℕ, ◌≡◌, ◌<◌, ◌⊎◌, List, [], ◌∷◌, ◌++◌}
use Rattle.rb_history.specs.declared.entries.Entry.{Entry}
use Rattle.rb_history.specs.declared.entries.Entry.TheVariants.{Res, Full, Sub, Dis, Take}
use Rattle.rb_history.specs.ReservationModel.{Granted}
use Rattle.rb_history.specs.Legal.{IsLegal}
use Rattle.rb_history.specs.RingModel.{Ring, StandsFor}
use Rattle.rb_history.specs.Calls.{Grants, FindsFull, Submits, Discards, TakesEvent, Skips}

-- the new ring results from a call that logs this entry: a reserve by a worker of the ring, a submit or discard of some
-- reservation, or a take
abbrev pub IsStepOf : Ring → Ring → Entry → Type 0
IsStepOf old new (Res w k n p) = (w < old.setup.workers) × Grants old new w n p k
IsStepOf old new (Full w n) = (w < old.setup.workers) × FindsFull old new w n
IsStepOf old new (Sub p) = (r : Granted) × ((r.pos ≡ p) × Submits old new r)
IsStepOf old new (Dis p) = (r : Granted) × ((r.pos ≡ p) × Discards old new r)
IsStepOf old new (Take p) = ((w : ℕ) × ((k : ℕ) × ((bytes : List ℕ) × TakesEvent old new p w k bytes))) ⊎ ((n : ℕ) × Skips old new p n)

-- the new ring agrees with the history that ends with the entry, and one call leads to it
pub record IsOneCall (old : Ring) (e : Entry) (new : Ring) : Type 0 where
  pub stands : StandsFor new
  pub history_is : new.history ≡ old.history ++ e ∷ []
  pub step : IsStepOf old new e

-- every legal history that extends a ring's history by one entry is the result of one call
abbrev pub EachEntryIsOneCall : Type 0
EachEntryIsOneCall = (old : Ring) (e : Entry) → StandsFor old → IsLegal old.setup (old.history ++ e ∷ []) → (new : Ring) × IsOneCall old e new
