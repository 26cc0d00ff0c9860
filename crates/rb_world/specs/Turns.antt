-- The turns of a world: one worker executes one instruction, the consumer of one ring makes one take, or the keeper of
-- one ring hands a chapter out.
use Rattle.std.specs.Prelude.{ℕ, ◌≡◌, List, [], ◌∷◌, Option, Some, None}
use Rattle.rb_history.specs.declared.answers.Taken.{Taken}
use Rattle.rb_history.specs.declared.answers.Taken.TheVariants.{Event, Skipped, BusyFront, Empty}
use Rattle.rb_history.specs.NoticesAndQueries.{query_answer}
use Rattle.rb_history.specs.ReservationModel.{Granted}
use Rattle.rb_history.specs.Calls.{Takes}
use Rattle.rb_semantics.specs.ProgramStates.{State}
use Rattle.rb_semantics.specs.HelperCalls.{HelperCall, Reserve, Submit, Discard, Output, Query, pending_call_of, HelperAnswer, HandedBack, Told, Resumption, Resumes, Strays, Unfit, resume}
use Rattle.rb_semantics.specs.Instructions.{StepEffect, Goes, Ends, Asks, Stuck, next_step}
use Rattle.rb_world.specs.declared.actor.Actor.{Actor}
use Rattle.rb_world.specs.declared.actor.Actor.TheVariants.{Worker, Consumer, Keeper}
use Rattle.rb_world.specs.Worlds.{RecordPlace, HeldRecords, WorkerStatus, Running, Finished, Halted, Strayed, WorkerState, WorldRing, World, table_with, with_worker, with_ring}
use Rattle.rb_world.specs.CallsInWorld.{RingSteps, RecordOutcome, Made, WorkerReserves, answer_to_reserve, held_after_reserve, WorkerOutputs, answer_to_output, granted_at, WorkerSubmits, WorkerDiscards}

-- What happened in a turn. `Went`: an instruction was executed. `HandedOver`: an instruction handed bytes over to a
-- ring, with the worker that did so, the position of the record, and the bytes. `Ended`: the program ended. `GotStuck`:
-- the instruction or the answer has no meaning. `GotBack`: a record was handed back. `Idle`: the worker no longer runs.
-- `Took`: the result of a take. `HandedChapter`: a chapter was handed out. `NoMemory`: memory for a take or a chapter
-- was refused.
pub data TurnEvent : Type 0 where
  Went : TurnEvent
  HandedOver : (ring worker pos : ℕ) → List ℕ → TurnEvent
  Ended : ℕ → TurnEvent
  GotStuck : TurnEvent
  GotBack : TurnEvent
  Idle : TurnEvent
  Took : Taken → TurnEvent
  HandedChapter : TurnEvent
  NoMemory : TurnEvent

-- ---- a worker's turn

-- how a worker continues after an answer, and what happened then
abbrev pub worker_after : Resumption → WorkerState → WorkerState
worker_after (Resumes s) x = record x { state = s }
worker_after Strays x = record x { status = Strayed }
worker_after Unfit x = record x { status = Halted }

abbrev pub event_of : TurnEvent → Resumption → TurnEvent
event_of on (Resumes s) = on
event_of on Strays = GotBack
event_of on Unfit = GotStuck

-- The call of a worker that waits in state `t` is answered: the worker continues from that state and then holds these
-- records, and the ring's new state is `b`. `on` is the event if the worker continues.
pub record GetsAnswer (w : ℕ) (call : HelperCall) (t : State) (answer : HelperAnswer) (on : TurnEvent) (held : HeldRecords) (r : ℕ) (b : WorldRing) (old : World) (event : TurnEvent) (new : World) : Type 0 where
  pub told : event ≡ event_of on (resume (pending_call_of call) answer t)
  pub world : new ≡ with_ring r b (with_worker w (worker_after (resume (pending_call_of call) answer t) (record (old.workers w) { held = held; state = t })) old)

-- a call that ends a record: submit or discard
abbrev pub GivingBack : Type 1
GivingBack = Granted → HelperAnswer → WorldRing → WorldRing → Type 0

-- a worker's submit hands the bytes over, and so does an output that made its record; a discard hands nothing over
abbrev pub submit_event : ℕ → RecordPlace → List ℕ → TurnEvent
submit_event w place bytes = HandedOver place.ring w place.pos bytes

abbrev pub discard_event : RecordPlace → List ℕ → TurnEvent
discard_event place bytes = Went

abbrev pub output_event : (w r : ℕ) → List ℕ → RecordOutcome → TurnEvent
output_event w r bytes (Made p k) = HandedOver r w p bytes
output_event w r bytes outcome = Went

-- A worker submits or discards the record that it holds under an id, at the ring that granted it. If it holds none
-- under this id, the call is answered `HandedBack`.
abbrev pub GivesRecordBack : GivingBack → (RecordPlace → List ℕ → TurnEvent) → ℕ → HelperCall → State → ℕ → List ℕ → Option RecordPlace → World → TurnEvent → World → Type 0
GivesRecordBack gives on w call t id bytes None old event new =
    GetsAnswer w call t HandedBack Went (old.workers w).held 0 (old.rings 0) old event new
GivesRecordBack gives on w call t id bytes (Some place) old event new =
    (answer : HelperAnswer) × (b : WorldRing) × gives (granted_at place w bytes) answer (old.rings place.ring) b
    × GetsAnswer w call t answer (on place bytes) (table_with id None (old.workers w).held) place.ring b old event new

-- a worker makes a call
abbrev pub MakesCall : ℕ → HelperCall → State → World → TurnEvent → World → Type 0
MakesCall w (Reserve id r len flags) t old event new =
    (outcome : RecordOutcome) × (b : WorldRing) × WorkerReserves w len flags outcome (old.rings r) b
    × GetsAnswer w (Reserve id r len flags) t (answer_to_reserve outcome) Went (held_after_reserve t.unit r outcome (old.workers w).held) r b old event new
MakesCall w (Submit id bytes flags) t old event new =
    GivesRecordBack WorkerSubmits (submit_event w) w (Submit id bytes flags) t id bytes ((old.workers w).held id) old event new
MakesCall w (Discard id bytes flags) t old event new =
    GivesRecordBack WorkerDiscards discard_event w (Discard id bytes flags) t id bytes ((old.workers w).held id) old event new
MakesCall w (Output r bytes flags) t old event new =
    (outcome : RecordOutcome) × (b : WorldRing) × WorkerOutputs w bytes flags outcome (old.rings r) b
    × GetsAnswer w (Output r bytes flags) t (answer_to_output outcome) (output_event w r bytes outcome) (old.workers w).held r b old event new
MakesCall w (Query r what) t old event new =
    GetsAnswer w (Query r what) t (Told (query_answer (old.rings r).ring.setup (old.rings r).ring.history what)) Went (old.workers w).held r (old.rings r) old event new

-- a worker performs its program's next step
abbrev pub ExecutesStep : ℕ → StepEffect → World → TurnEvent → World → Type 0
ExecutesStep w (Goes t) old event new = (event ≡ Went) × (new ≡ with_worker w (record (old.workers w) { state = t }) old)
ExecutesStep w (Ends n) old event new = (event ≡ Ended n) × (new ≡ with_worker w (record (old.workers w) { status = Finished n }) old)
ExecutesStep w (Asks call t) old event new = MakesCall w call t old event new
ExecutesStep w Stuck old event new = (event ≡ GotStuck) × (new ≡ with_worker w (record (old.workers w) { status = Halted }) old)

-- a worker that no longer runs does nothing
abbrev pub TakesWorkerTurn : ℕ → WorkerStatus → World → TurnEvent → World → Type 0
TakesWorkerTurn w Running old event new = ExecutesStep w (next_step (old.workers w).subject.program (old.workers w).state) old event new
TakesWorkerTurn w _ old event new = (event ≡ Idle) × (new ≡ old)

-- ---- a consumer's turn

-- what a take appends to the list of taken records
abbrev pub taken_by : Taken → List Taken
taken_by (Event p w k bytes) = Event p w k bytes ∷ []
taken_by (Skipped p n) = Skipped p n ∷ []
taken_by BusyFront = []
taken_by Empty = []

-- a take, or memory for it is refused, which is a free choice
abbrev pub TakesConsumerTurn : ℕ → World → TurnEvent → World → Type 0
TakesConsumerTurn r old (Took found) new =
    (b : WorldRing) × RingSteps (λ v v'. Takes v v' found) (taken_by found) (old.rings r) b × (new ≡ with_ring r b old)
TakesConsumerTurn r old NoMemory new = new ≡ old
TakesConsumerTurn r old event new = ⊥

-- ---- a keeper's turn

-- A ring's whole history spans all its chapters. So a keeper's turn changes nothing, whether a chapter was handed out
-- or memory for the next one was refused.
abbrev pub TakesKeeperTurn : World → TurnEvent → World → Type 0
TakesKeeperTurn old HandedChapter new = new ≡ old
TakesKeeperTurn old NoMemory new = new ≡ old
TakesKeeperTurn old event new = ⊥

-- ---- runs

-- one turn of an actor, what happened, and the world after it
abbrev pub WorldStep : World → Actor → TurnEvent → World → Type 0
WorldStep old (Worker w) event new = TakesWorkerTurn w (old.workers w).status old event new
WorldStep old (Consumer r) event new = TakesConsumerTurn r old event new
WorldStep old (Keeper r) event new = TakesKeeperTurn old event new

-- the turns of a list of actors in order, and what happened in each
abbrev pub WorldRun : World → List Actor → List TurnEvent → World → Type 0
WorldRun old [] [] new = new ≡ old
WorldRun old (actor ∷ actors) (event ∷ events) new = (next : World) × WorldStep old actor event next × WorldRun next actors events new
WorldRun old _ _ new = ⊥
