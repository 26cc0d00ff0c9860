-- What one machine and one ring do in a turn, in terms of a turn of the world.
use Rattle.std.specs.Prelude.{ℕ, ◌≡◌, ◌<◌, List, ◌++◌, Some, length, slice_set}
use Rattle.std.specs.List.{slice_index_or}
use Rattle.rb_semantics.specs.declared.pending_call.PendingCall.{PendingCall}
use Rattle.rb_semantics.specs.declared.pending_call.PendingCall.TheVariants as asked
use Rattle.rb_semantics.specs.HelperCalls.{HelperAnswer, Taken, Told, resume}
use Rattle.rb_history.specs.NoticesAndQueries.{query_answer}
use Rattle.rb_history.specs.RingModel.{StandsFor}
use Rattle.rb_history.specs.Calls.{Takes}
use Rattle.rb_interp.specs.MachineState.{MachineState}
use Rattle.rb_world.specs.declared.actor.Actor.TheVariants.{Worker}
use Rattle.rb_world.specs.Worlds.{HeldRecords, Running, WorldRing}
use Rattle.rb_world.specs.CallsInWorld.{RecordOutcome, WorkerReserves, WorkerOutputs, answer_to_reserve, held_after_reserve, answer_to_output}
use Rattle.rb_world.specs.Turns.{TurnEvent, Took, NoMemory, GivingBack, worker_after, taken_by}
use Rattle.rb_world.specs.declared.turn_done.TurnDone.{TurnDone}
use Rattle.rb_world.specs.declared.turn_done.TurnDone.TheVariants as turn
use Rattle.rb_chapter_ring.specs.declared.ring_record.RingRecord.{RingRecord}
use Rattle.rb_world.specs.WorldValue.{KeptRing, held_by, worker_of}
use Rattle.rb_world.specs.TurnsDone.{TellsEvent, IsWholeTurn, HandsChapterOut}

-- ---- a take

-- the effect of one take on a ring and on what was taken from it
abbrev pub DoesTake : TurnEvent → WorldRing → WorldRing → Type 0
DoesTake (Took found) old new = Takes old.ring new.ring found × StandsFor new.ring × (new.taken ≡ old.taken ++ taken_by found)
DoesTake NoMemory old new = new ≡ old
DoesTake _ old new = ⊥

abbrev pub TakesOnce : WorldRing → TurnDone → WorldRing → Type 0
TakesOnce old done new = (event : TurnEvent) × TellsEvent done event × DoesTake event old new

-- ---- a keeper's turn

-- the effect of a keeper's turn on a ring
abbrev pub KeepsChapter : KeptRing → TurnDone → KeptRing → Type 0
KeepsChapter old (turn.Chapter n) new = HandsChapterOut n old new
KeepsChapter old turn.Memory new = new ≡ old
KeepsChapter old done new = ⊥

-- ---- a worker's turn

-- a machine's turn is the worker's turn, in any list of machines in which it has that worker's index
abbrev pub IsWorkerTurn : ℕ → MachineState RingRecord → List WorldRing → TurnDone → MachineState RingRecord → List WorldRing → Type 0
IsWorkerTurn w old rings done new rings' =
    (machines : List (MachineState RingRecord)) → w < length machines → old ≡ slice_index_or machines w old
    → IsWholeTurn (Worker w) (record { rings = rings; machines = machines }) done (record { rings = rings'; machines = slice_set machines w new })

-- a waiting machine got an answer of the right kind, continues, and holds these records
abbrev pub GoesOnWith : PendingCall → HelperAnswer → HeldRecords → MachineState RingRecord → MachineState RingRecord → Type 0
GoesOnWith kind answer held old new = worker_of new ≡ worker_after (resume kind answer old.state) (record (worker_of old) { held = held; status = Running })

abbrev pub AnswersReserve : (w r len flags : ℕ) → MachineState RingRecord → WorldRing → MachineState RingRecord → WorldRing → Type 0
AnswersReserve w r len flags m s m' s' =
    (outcome : RecordOutcome) × WorkerReserves w len flags outcome s s'
    × GoesOnWith (asked.Reserve len) (answer_to_reserve outcome) (held_after_reserve m.state.unit r outcome (held_by m)) m m'

abbrev pub AnswersOutput : (w flags : ℕ) → MachineState RingRecord → WorldRing → MachineState RingRecord → WorldRing → Type 0
AnswersOutput w flags m s m' s' =
    (bytes : List ℕ) → m.output ≡ Some bytes
    → (outcome : RecordOutcome) × WorkerOutputs w bytes flags outcome s s' × GoesOnWith asked.Output (answer_to_output outcome) (held_by m) m m'

-- a record was submitted or discarded, and the ring took it
abbrev pub AnswersGivenBack : GivingBack → RingRecord → MachineState RingRecord → WorldRing → MachineState RingRecord → WorldRing → Type 0
AnswersGivenBack gives owned m s m' s' = gives owned.reservation.granted Taken s s' × GoesOnWith asked.GiveBack Taken (held_by m) m m'

abbrev pub AnswersQuery : ℕ → MachineState RingRecord → WorldRing → MachineState RingRecord → Type 0
AnswersQuery what m s m' = GoesOnWith asked.Query (Told (query_answer s.ring.setup s.ring.history what)) (held_by m) m m'
