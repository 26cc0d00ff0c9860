-- Runs of a world (own).
use Rattle.std.specs.Prelude.{ℕ, ◌≡◌, List, [], ◌∷◌, Option, Some, None}
use Rattle.std.specs.List.{AllZip}
use Rattle.rb_world.specs.declared.actor.Actor.{Actor}
use Rattle.rb_world.specs.Worlds.{WorkerStatus, Running, Finished, WorkerState}
use Rattle.rb_world.specs.Turns.{TurnEvent, WorldRun}
use Rattle.rb_world.specs.declared.turn_done.TurnDone.{TurnDone}
use Rattle.rb_world.specs.WorldValue.{WorldValue, world_of, IsThere}
use Rattle.rb_world.specs.RecordReasons.{TurnHasReasons}
use Rattle.rb_world.specs.TurnsDone.{TellsEvent, IsTurnOf, TurnsChaptersOf}

-- the actor at this index does not exist, and all before it do
abbrev pub IsFirstUnknown : WorldValue → List Actor → ℕ → Type 0
IsFirstUnknown v [] place = ⊥
IsFirstUnknown v (actor ∷ actors) ℕ.zero = ¬ IsThere v actor
IsFirstUnknown v (actor ∷ actors) (ℕ.suc place) = IsThere v actor × IsFirstUnknown v actors place

-- the turns of these actors, in order, are a run of the world, and these results report what happened in each
abbrev pub IsRunOf : List Actor → WorldValue → List TurnDone → WorldValue → Type 0
IsRunOf actors old dones new = (events : List TurnEvent) × AllZip TellsEvent dones events × WorldRun (world_of old) actors events (world_of new)

-- the turns of these actors ran in order, each from the world that the turn before it left, with these results; in
-- each, the chapters changed as that actor's turn changes them, and a worker whose call got no record had a reason
abbrev pub TakesTurns : List Actor → WorldValue → List TurnDone → WorldValue → Type 0
TakesTurns [] old [] new = new ≡ old
TakesTurns (actor ∷ actors) old (done ∷ dones) new =
    (next : WorldValue) × IsTurnOf actor old done next × TurnsChaptersOf actor done old.rings next.rings × TurnHasReasons actor old next × TakesTurns actors next dones new
TakesTurns _ old _ new = ⊥

-- the next unit of a running worker
abbrev pub unit_by : WorkerStatus → ℕ → Option ℕ
unit_by Running unit = Some unit
unit_by status unit = None

abbrev pub next_unit : WorkerState → Option ℕ
next_unit x = unit_by x.status x.state.unit

-- the result of a worker's program
abbrev pub result_by : WorkerStatus → Option ℕ
result_by (Finished n) = Some n
result_by status = None

abbrev pub result_of : WorkerState → Option ℕ
result_of x = result_by x.status
