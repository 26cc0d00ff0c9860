-- Properties of a world after the turns of any list of actors, in any order.
use Rattle.std.specs.Prelude.{ℕ, ◌≡◌, ◌≢◌, ◌<◌, ◌≤◌, ◌==◌, Bool, true, false, List, [], ◌∷◌, ◌++◌, if◌then◌else◌, Option, Some, None, count_by, length}
use Rattle.std.specs.List.{All, Contains, filter_map}
use Rattle.rb_program.specs.Program.{unit_count}
use Rattle.rb_semantics.specs.ProgramMemory.{record_named}
use Rattle.rb_history.specs.declared.entries.Entry.{Entry}
use Rattle.rb_history.specs.declared.entries.Entry.TheVariants.{Res}
use Rattle.rb_history.specs.declared.answers.Taken.{Taken}
use Rattle.rb_history.specs.declared.answers.Taken.TheVariants.{Event, Skipped}
use Rattle.rb_history.specs.History.{is_submitted_at}
use Rattle.rb_history.specs.Legal.{IsLegal}
use Rattle.rb_history.specs.RingModel.{StandsFor}
use Rattle.rb_history.specs.Calls.{IsBusy}
use Rattle.rb_world.specs.Worlds.{Running, Finished, Halted, Strayed, WorkerState, WorldRing, World}
use Rattle.rb_world.specs.declared.actor.Actor.{Actor}
use Rattle.rb_world.specs.declared.actor.Actor.TheVariants.{Worker, Consumer, Keeper}
use Rattle.rb_world.specs.Turns.{TurnEvent, HandedOver, WorldStep, WorldRun}
use Rattle.rb_world.specs.OpeningWorld.{IsOpeningWorld, IsActor}

-- the number of turns that a worker had
abbrev pub is_turn_of : ℕ → Actor → Bool
is_turn_of w (Worker v) = v == w
is_turn_of w (Consumer r) = false
is_turn_of w (Keeper r) = false

abbrev pub turns_of : ℕ → List Actor → ℕ
turns_of w actors = count_by (is_turn_of w) actors

-- a worker holds, under an id, the record of a ring at a position
pub record HoldsRecord (x : WorkerState) (id r p k : ℕ) : Type 0 where
  pub held : x.held id ≡ Some (record { ring = r; pos = p; serial = k })

-- a worker's program ended with a result
abbrev pub HasFinished : WorkerState → Type 0
HasFinished x = (n : ℕ) × (x.status ≡ Finished n)

-- a ring has a busy record with this position, worker, serial and length
abbrev pub IsBusyIn : World → (r p w k n : ℕ) → Type 0
IsBusyIn world r p w k n = IsBusy (world.rings r).ring.history p w k n

-- a ring has a busy record with this position, worker and serial, as long as the record that the worker's memory has
-- under an id
abbrev pub IsBusyAsHeld : World → (w id r p k : ℕ) → Type 0
IsBusyAsHeld world w id r p k =
    (bytes : List ℕ) × (record_named id (world.workers w).state.memory.records ≡ Some bytes) × IsBusyIn world r p w k (length bytes)

-- the position of the record that an entry grants, and of a record that was taken
abbrev pub granted_position : Entry → Option ℕ
granted_position (Res w k n p) = Some p
granted_position _ = None

abbrev pub taken_position : Taken → Option ℕ
taken_position (Event p w k bytes) = Some p
taken_position (Skipped p n) = Some p
taken_position _ = None

-- the records that were taken are the first that were reserved, in that order
abbrev pub AreTakenInOrder : WorldRing → Type 0
AreTakenInOrder b =
    (rest : List ℕ) × (filter_map granted_position b.ring.history ≡ filter_map taken_position b.taken ++ rest)

-- what was handed over at a ring, according to the events of turns: each time the position of the record, the worker
-- that handed it over, and the bytes
abbrev pub handed_by : ℕ → TurnEvent → List (ℕ × ℕ × List ℕ)
handed_by r (HandedOver s w p bytes) = if r == s then (p, w, bytes) ∷ [] else []
handed_by r event = []

abbrev pub handed_at : ℕ → List TurnEvent → List (ℕ × ℕ × List ℕ)
handed_at r [] = []
handed_at r (event ∷ events) = handed_by r event ++ handed_at r events

-- whether it was handed over at a position
abbrev pub is_handed_at : ℕ → ℕ × ℕ × List ℕ → Bool
is_handed_at p handed = handed.0 == p

-- the record at a position was granted to a worker, with n bytes, and submitted
pub record IsSubmittedBy (h : List Entry) (p w n : ℕ) : Type 0 where
  pub serial : ℕ
  pub granted_is : Contains h (Res w serial n p)
  pub submitted : is_submitted_at h p ≡ true

-- Invariant of a ring, of what was handed over to it and of what was taken from it. At each position, bytes are handed
-- over at most once, by one worker. They belong to a record of the same length that the worker was granted and that was
-- submitted. The bytes taken as a worker's event are those that this worker handed over there.
pub record IsTrueRing (workers : ℕ) (handed : List (ℕ × ℕ × List ℕ)) (b : WorldRing) : Type 0 where
  pub legal : IsLegal b.ring.setup b.ring.history
  pub stands : StandsFor b.ring
  pub workers_are : b.ring.setup.workers ≡ workers
  pub handed_at_most_once : (p : ℕ) → count_by (is_handed_at p) handed ≤ 1
  pub handed_once : (p v w : ℕ) (one other : List ℕ) → Contains handed (p, v, one) → Contains handed (p, w, other) → (v ≡ w) × (one ≡ other)
  pub handed_submitted : (p w : ℕ) (bytes : List ℕ) → Contains handed (p, w, bytes) → IsSubmittedBy b.ring.history p w (length bytes)
  pub taken_as_handed : (p w k : ℕ) (bytes : List ℕ) → Contains b.taken (Event p w k bytes) → Contains handed (p, w, bytes)
  pub taken_in_order : AreTakenInOrder b

-- No worker reached an instruction without a meaning or had a record handed back. A worker that had as many turns as
-- its program has units has finished. The busy records are those that running workers hold, each held by one worker
-- under one id.
pub record IsWellRun (actors : List Actor) (events : List TurnEvent) (world : World) : Type 0 where
  pub never_halted : (w : ℕ) → w < world.worker_count → (world.workers w).status ≢ Halted
  pub never_strayed : (w : ℕ) → w < world.worker_count → (world.workers w).status ≢ Strayed
  pub finishes : (w : ℕ) → w < world.worker_count → unit_count (world.workers w).subject.program ≤ turns_of w actors → HasFinished (world.workers w)
  pub finished_hold_none : (w id : ℕ) → w < world.worker_count → HasFinished (world.workers w) → (world.workers w).held id ≡ None
  pub held_are_busy : (w id r p k : ℕ) → w < world.worker_count → HoldsRecord (world.workers w) id r p k → IsBusyAsHeld world w id r p k
  pub busy_are_held : (r p w k n : ℕ) → IsBusyIn world r p w k n → (w < world.worker_count) × ((world.workers w).status ≡ Running) × ((id : ℕ) × HoldsRecord (world.workers w) id r p k)
  pub held_once : (w v id other r p j k : ℕ) → w < world.worker_count → v < world.worker_count → HoldsRecord (world.workers w) id r p j → HoldsRecord (world.workers v) other r p k → (w ≡ v) × (id ≡ other)
  pub none_busy : ((w : ℕ) → w < world.worker_count → HasFinished (world.workers w)) → (r p w k n : ℕ) → IsBusyIn world r p w k n → ⊥
  pub rings : (r : ℕ) → IsTrueRing world.worker_count (handed_at r events) (world.rings r)

-- every interleaving of verified programs, consumers and keepers
abbrev pub EveryInterleavingIsWell : Type 0
EveryInterleavingIsWell =
    (first last : World) (actors : List Actor) (events : List TurnEvent) → IsOpeningWorld first → All (IsActor first.worker_count) actors
    → WorldRun first actors events last → IsWellRun actors events last

-- A world reached by the turns of these actors, in this order, from an opening of verified programs. `events` is what
-- happened in each turn.
pub record IsReachedWorld (world : World) : Type 0 where
  pub first : World
  pub actors : List Actor
  pub events : List TurnEvent
  pub opens : IsOpeningWorld first
  pub there : All (IsActor first.worker_count) actors
  pub run : WorldRun first actors events world
  pub count : world.worker_count ≡ first.worker_count

-- one more turn of an existing actor leads to another reachable world
abbrev pub TurnsLeadOn : Type 0
TurnsLeadOn =
    (old new : World) (actor : Actor) (event : TurnEvent) → IsReachedWorld old → IsActor old.worker_count actor → WorldStep old actor event new
    → IsReachedWorld new

-- every reachable world is well, by the turns that led to it
abbrev pub ReachedWorldsAreWell : Type 0
ReachedWorldsAreWell = (world : World) (reached : IsReachedWorld world) → IsWellRun reached.actors reached.events world
