-- The output of a world's turns and of its end, and a script's run (own).
use Rattle.std.specs.Prelude.{ℕ, ◌≡◌, Bool, true, false, List, [], ◌∷◌, ◌++◌, Option, Some, None, length, map, take, ◌⊎◌}
use Rattle.std.specs.List.{AllZip}
use Rattle.rb_world.specs.declared.actor.Actor.{Actor}
use Rattle.rb_world.specs.declared.actor.Actor.TheVariants.{Consumer, Keeper}
use Rattle.rb_world.specs.Turns.{TurnEvent, Took, WorldRun}
use Rattle.rb_world.specs.declared.turn_done.TurnDone.{TurnDone}
use Rattle.rb_world.specs.declared.turn_done.TurnDone.TheVariants.{Chapter}
use Rattle.rb_world.specs.WorldValue.{WorldValue, world_of}
use Rattle.rb_world.specs.WorldRuns.{next_unit, result_of, TakesTurns}
use Rattle.rb_world.specs.TurnsDone.{TellsEvent, IsTurnOf, TurnsChaptersOf}
use Rattle.rb_world.specs.OpenedWorlds.{IsOpenedWorld}
use Rattle.rb_world.specs.declared.world_setup.WorkerSetup.{WorkerSetup}
use Rattle.rb_history.specs.Calls.{producer_now, consumer_now}
use Rattle.rb_history.specs.Counting.{counts_of}
use Rattle.rb_history.specs.RingModel.{Ring}
use Rattle.rb_json.specs.declared.form.LineForm.{LineForm}
use Rattle.rb_verifier.specs.Subject.{Subject}
use Rattle.rb_script.specs.declared.script.Script.{Script}
use Rattle.rb_script.specs.declared.script.ScriptWorker.{ScriptWorker}
use Rattle.rb_script.specs.Drawings.{ring_drawing}
use Rattle.rb_script.specs.OutputLines.{take_line, chapter_line, done_line, at_line, ring_line}
use Rattle.rb_script.specs.Programs.{IsWorkersProgram}
use Rattle.rb_script.specs.Scripts.{worker_text}

-- the lines with numbers below n, in order
abbrev pub lines_below : (ℕ → List ℕ) → ℕ → List ℕ
lines_below line_at ℕ.zero = []
lines_below line_at (ℕ.suc n) = lines_below line_at n ++ line_at n

-- a take has a line with what it found, and a chapter that was handed out has a line with its number; other turns have
-- none
abbrev pub turn_text : LineForm → Actor → TurnDone → TurnEvent → List ℕ
turn_text form (Consumer r) done (Took found) = take_line form r found
turn_text form (Keeper r) (Chapter n) event = chapter_line form r n
turn_text form actor done event = []

-- the drawing of a ring after a turn; drawings are optional
abbrev pub drawing_of : LineForm → WorldValue → ℕ → List ℕ
drawing_of form v r = ring_drawing form r ((world_of v).rings r).ring

abbrev pub drawings : LineForm → Bool → WorldValue → List ℕ
drawings form true v = lines_below (drawing_of form v) (length v.rings)
drawings form false v = []

-- the lines of turns, in order, each followed by the drawings of the world after that turn
abbrev pub turns_text : LineForm → Bool → List Actor → List TurnDone → List TurnEvent → List WorldValue → List ℕ
turns_text form draw (actor ∷ actors) (done ∷ dones) (event ∷ events) (world ∷ worlds) = turn_text form actor done event ++ drawings form draw world ++ turns_text form draw actors dones events worlds
turns_text form draw _ _ _ _ = []

-- the worlds after each of the turns
abbrev pub PassesWorlds : List Actor → WorldValue → List TurnDone → List WorldValue → WorldValue → Type 0
PassesWorlds [] old [] [] new = new ≡ old
PassesWorlds (actor ∷ actors) old (done ∷ dones) (world ∷ worlds) new =
    IsTurnOf actor old done world × TurnsChaptersOf actor done old.rings world.rings × PassesWorlds actors world dones worlds new
PassesWorlds _ old _ _ new = ⊥

-- The turns of these actors, in order, are a run of the world and change chapters as turns do. Their results report
-- what happened in each, and their lines were appended to the text.
pub record WritesRun (form : LineForm) (draw : Bool) (actors : List Actor) (old new : WorldValue) (before after : List ℕ) : Type 0 where
  pub dones : List TurnDone
  pub events : List TurnEvent
  pub told : AllZip TellsEvent dones events
  pub run : WorldRun (world_of old) actors events (world_of new)
  pub turns : TakesTurns actors old dones new
  pub worlds : List WorldValue
  pub passed : PassesWorlds actors old dones worlds new
  pub text_is : after ≡ before ++ turns_text form draw actors dones events worlds

-- some first turns of these actors were made and their lines were appended to the text; if one more was made, it has no
-- line there
pub record BeginsRun (form : LineForm) (draw : Bool) (actors : List Actor) (old : WorldValue) (before after : List ℕ) : Type 0 where
  pub turns : ℕ
  pub last : WorldValue
  pub written : WritesRun form draw (take turns actors) old last before after

-- ---- the lines at the end

-- a worker's line: the result of its program, or its next unit
abbrev pub status_line : LineForm → ℕ → (ended next : Option ℕ) → List ℕ
status_line form w (Some value) next = done_line form w value
status_line form w None (Some unit) = at_line form w unit
status_line form w None None = []

abbrev pub worker_line : LineForm → WorldValue → ℕ → List ℕ
worker_line form v w = status_line form w (result_of ((world_of v).workers w)) (next_unit ((world_of v).workers w))

-- a ring's line: its positions and its counts, by its whole history
abbrev pub ring_state_text : LineForm → ℕ → Ring → List ℕ
ring_state_text form r ring = ring_line form r (producer_now ring) (consumer_now ring) (counts_of ring.history)

abbrev pub ring_end_of : LineForm → WorldValue → ℕ → List ℕ
ring_end_of form v r = ring_state_text form r ((world_of v).rings r).ring

-- the lines of the workers, followed by those of the rings
abbrev pub world_text : LineForm → WorldValue → List ℕ
world_text form v = lines_below (worker_line form v) (length v.machines) ++ lines_below (ring_end_of form v) (length v.rings)

-- ---- a script

-- each worker has its program and its context
pub record AreSetups (workers : List ScriptWorker) (programs : List Subject) (setups : List WorkerSetup) : Type 0 where
  pub programs_are : map (λ (x : WorkerSetup). x.program.now) setups ≡ programs
  pub contexts_are : map (λ (x : WorkerSetup). x.context.now) setups ≡ map (λ (w : ScriptWorker). w.context.items) workers

-- a world with the script's rings was opened for these programs and the contexts of the script's workers; the script's
-- turns were run in it and their lines were appended to the text; `ends` are the lines at the end
pub record SimulatesWith (form : LineForm) (draw : Bool) (s : Script) (programs : List Subject) (before after ends : List ℕ) : Type 0 where
  pub setups : List WorkerSetup
  pub first : WorldValue
  pub last : WorldValue
  pub are : AreSetups s.workers.items programs setups
  pub opened : IsOpenedWorld s.rings.items setups first
  pub written : WritesRun form draw s.actors.items first last before after
  pub ends_are : ends ≡ world_text form last

-- the same, with the programs of the script's workers
pub record Simulates (form : LineForm) (draw : Bool) (s : Script) (before after ends : List ℕ) : Type 0 where
  pub programs : List Subject
  pub accepted : AllZip (IsWorkersProgram (length s.rings.items)) (map worker_text s.workers.items) programs
  pub ran : SimulatesWith form draw s programs before after ends

-- the same world was opened, the first of the script's turns were run in it, and their lines were appended to the text
pub record BeginsSimulationWith (form : LineForm) (draw : Bool) (s : Script) (programs : List Subject) (before after : List ℕ) : Type 0 where
  pub setups : List WorkerSetup
  pub first : WorldValue
  pub are : AreSetups s.workers.items programs setups
  pub opened : IsOpenedWorld s.rings.items setups first
  pub begun : BeginsRun form draw s.actors.items first before after

pub record BeginsSimulation (form : LineForm) (draw : Bool) (s : Script) (before after : List ℕ) : Type 0 where
  pub programs : List Subject
  pub accepted : AllZip (IsWorkersProgram (length s.rings.items)) (map worker_text s.workers.items) programs
  pub begun : BeginsSimulationWith form draw s programs before after

-- what was appended to the text when memory ran out: nothing, or the lines of the first turns
abbrev pub BreaksOff : LineForm → Bool → Script → (before after : List ℕ) → Type 0
BreaksOff form draw s before after = (after ≡ before) ⊎ BeginsSimulation form draw s before after
