-- What a world's consumers take, as tapes, and when they have taken everything (own).
use Rattle.std.specs.Prelude.{ℕ, ◌≡◌, ◌≢◌, ◌<◌, ◌≤◌, ◌==◌, Bool, false, List, [], ◌∷◌, count_by, length}
use Rattle.std.specs.List.{All, flat_map}
use Rattle.rb_history.specs.TapeBytes.{Item, AreItemsFrom, end_of}
use Rattle.rb_history.specs.TapeBytes.Item.{Event as EventItem, Skip as SkipItem}
use Rattle.rb_history.specs.declared.answers.Taken.{Taken}
use Rattle.rb_history.specs.declared.answers.Taken.TheVariants.{Event, Skipped, BusyFront, Empty}
use Rattle.rb_history.specs.Calls.{AllTaken, consumer_now}
use Rattle.rb_world.specs.Worlds.{WorldRing, World}
use Rattle.rb_world.specs.declared.actor.Actor.{Actor}
use Rattle.rb_world.specs.declared.actor.Actor.TheVariants.{Worker, Consumer, Keeper}
use Rattle.rb_world.specs.Turns.{TurnEvent, NoMemory, WorldRun}
use Rattle.rb_world.specs.OpeningWorld.{IsOpeningWorld, IsActor}
use Rattle.rb_world.specs.EveryInterleaving.{HasFinished, IsReachedWorld}

-- what was taken, as records of a tape
abbrev pub taken_item : Taken → List Item
taken_item (Event position worker serial bytes) = EventItem position bytes ∷ []
taken_item (Skipped position len) = SkipItem position len ∷ []
taken_item BusyFront = []
taken_item Empty = []

abbrev pub taken_items : List Taken → List Item
taken_items records = flat_map taken_item records

-- what was taken from a ring forms one tape, from the ring's first position to its consumer position
pub record StandsOnTape (b : WorldRing) : Type 0 where
  pub follow : AreItemsFrom b.ring.setup.size b.ring.setup.start (taken_items b.taken)
  pub ends : end_of b.ring.setup.start (taken_items b.taken) ≡ consumer_now b.ring

-- in every reachable world, a ring has the setup that it was opened with, and what was taken from it forms a tape
abbrev pub TakenStandOnTapes : Type 0
TakenStandOnTapes =
    (world : World) (x : IsReachedWorld world) (r : ℕ)
    → ((world.rings r).ring.setup ≡ (x.first.rings r).ring.setup) × ((world.rings r).ring.setup.size ≤ 67108864 → StandsOnTape (world.rings r))

-- the number of turns that a ring's consumer had
abbrev pub is_take_of : ℕ → Actor → Bool
is_take_of r (Worker w) = false
is_take_of r (Consumer s) = s == r
is_take_of r (Keeper s) = false

abbrev pub takes_of : ℕ → List Actor → ℕ
takes_of r actors = count_by (is_take_of r) actors

abbrev pub AllHaveFinished : World → Type 0
AllHaveFinished world = (w : ℕ) → w < world.worker_count → HasFinished (world.workers w)

-- if all workers have finished after some turns, then a ring is empty once its consumer has had at least as many turns
-- after them, none of which failed for memory
abbrev pub EnoughTakesLeaveNone : Type 0
EnoughTakesLeaveNone =
    (first mid last : World) (work takes : List Actor) (worked taken : List TurnEvent) → IsOpeningWorld first → All (IsActor first.worker_count) work
    → WorldRun first work worked mid → AllHaveFinished mid → All (IsActor first.worker_count) takes → WorldRun mid takes taken last
    → All (λ event. event ≢ NoMemory) taken → (r : ℕ) → length work ≤ takes_of r takes → AllTaken (last.rings r).ring
