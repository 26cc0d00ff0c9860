-- The script of a text, the limits of a script, and the first line at fault (own).
use Rattle.std.specs.Prelude.{ℕ, ◌≡◌, ◌≤◌, ◌<◌, ◌+◌, ◌-◌, ◌⊎◌, List, [], ◌∷◌, ◌++◌, length, map, replicate, take, All}
use Rattle.std.specs.List.{AllZip}
use Rattle.rb_world.specs.declared.actor.Actor.{Actor}
use Rattle.rb_world.specs.declared.actor.Actor.TheVariants.{Worker, Consumer, Keeper}
use Rattle.rb_world.specs.declared.world_setup.RingSetup.{RingSetup}
use Rattle.rb_world.specs.OpenedWorlds.{AreRings, HaveRooms}
use Rattle.rb_script.specs.declared.script.Script.{Script}
use Rattle.rb_script.specs.declared.script.ScriptWorker.{ScriptWorker}
use Rattle.rb_script.specs.declared.script_fault.ScriptFault.{ScriptFault}
use Rattle.rb_script.specs.declared.script_fault.ScriptFault.TheVariants.{Line, Memory}
use Rattle.rb_script.specs.ScriptText.{Statement, Says}
use Rattle.rb_script.specs.ScriptText.Statement.{RingOf, WorkerOf, TurnsOf}

-- at most 16 rings, 256 workers and 1,000,000 turns
pub record IsWithinLimits (s : Script) : Type 0 where
  pub rings : length s.rings.items ≤ 16
  pub workers : length s.workers.items ≤ 256
  pub turns : length s.actors.items ≤ 1000000

-- at least one worker
abbrev pub HasWorker : Script → Type 0
HasWorker s = 1 ≤ length s.workers.items

-- the actor exists, for these numbers of rings and workers
abbrev pub IsAmong : (rings workers : ℕ) → Actor → Type 0
IsAmong rings workers (Worker w) = w < workers
IsAmong rings workers (Consumer r) = r < rings
IsAmong rings workers (Keeper r) = r < rings

-- a script that can be run: its rings are valid, it has 1 to 256 workers, and every turn is one of an existing worker
-- or ring
pub record MayRunScript (s : Script) : Type 0 where
  pub limits : IsWithinLimits s
  pub worker : HasWorker s
  pub rings : AreRings s.rings.items
  pub rooms : HaveRooms s.rings.items
  pub actors : All (IsAmong (length s.rings.items) (length s.workers.items)) s.actors.items

-- ---- what the lines of a script say together

-- a worker: the number of its line, its program in hex, and the bytes of its context
pub record WorkerText : Type 0 where
  pub line : ℕ
  pub program : List ℕ
  pub context : List ℕ

-- the rings, in the order of their lines
abbrev pub script_rings : List Statement → List RingSetup
script_rings [] = []
script_rings (RingOf setup ∷ said) = setup ∷ script_rings said
script_rings (WorkerOf program context ∷ said) = script_rings said
script_rings (TurnsOf actor count ∷ said) = script_rings said

-- the workers, in the order of their lines, if the first line has this number
abbrev pub script_workers : ℕ → List Statement → List WorkerText
script_workers number [] = []
script_workers number (RingOf setup ∷ said) = script_workers (number + 1) said
script_workers number (WorkerOf program context ∷ said) = record { line = number; program = program; context = context } ∷ script_workers (number + 1) said
script_workers number (TurnsOf actor count ∷ said) = script_workers (number + 1) said

-- the actors whose turns they are, in order
abbrev pub actors_of : List Statement → List Actor
actors_of [] = []
actors_of (RingOf setup ∷ said) = actors_of said
actors_of (WorkerOf program context ∷ said) = actors_of said
actors_of (TurnsOf actor count ∷ said) = replicate count actor ++ actors_of said

-- ---- the order of lines

-- after lines with these numbers of rings, workers and turns: rings and workers come before the first turn, and turns
-- after a worker
abbrev pub MayStandBehind : (rings workers turns : ℕ) → Statement → Type 0
MayStandBehind rings workers turns (RingOf setup) = (turns ≡ 0) × (rings < 16)
MayStandBehind rings workers turns (WorkerOf program context) = (turns ≡ 0) × (workers < 256)
MayStandBehind rings workers turns (TurnsOf actor count) = (1 ≤ workers) × IsAmong rings workers actor × (turns + count ≤ 1000000)

-- each of these statements is allowed after those before it
abbrev pub AreInOrder : (front : List Statement) → List Statement → Type 0
AreInOrder front [] = Unit {0}
AreInOrder front (statement ∷ more) =
    MayStandBehind (length (script_rings front)) (length (script_workers 1 front)) (length (actors_of front)) statement × AreInOrder (front ++ statement ∷ []) more

-- ---- the script, and the first line at fault

-- the lines make these statements, and each is allowed at its place
pub record LinesSay (lines : List (List ℕ)) (said : List Statement) : Type 0 where
  pub says : AllZip Says lines said
  pub in_order : AreInOrder [] said

-- lines with which a script may begin
abbrev pub BeginsScript : List (List ℕ) → Type 0
BeginsScript lines = (said : List Statement) × LinesSay lines said

-- the lines of a whole script
abbrev pub IsScript : List (List ℕ) → Type 0
IsScript lines = (said : List Statement) × LinesSay lines said × (1 ≤ length (script_workers 1 said))

abbrev pub worker_text : ScriptWorker → WorkerText
worker_text worker = record { line = worker.line; program = worker.program.now; context = worker.context.items }

-- the script's rings, workers and turns are those of the statements
pub record IsMadeOf (said : List Statement) (s : Script) : Type 0 where
  pub rings : s.rings.items ≡ script_rings said
  pub workers : map worker_text s.workers.items ≡ script_workers 1 said
  pub actors : s.actors.items ≡ actors_of said

-- each line is a line of a script, and the script is what they say
pub record StandFor (lines : List (List ℕ)) (s : Script) : Type 0 where
  pub said : List Statement
  pub begins : LinesSay lines said
  pub made : IsMadeOf said s

-- the first line at fault: a script may begin with the lines before it, but not with these and the line itself; or, if
-- the text names no worker, the line after its last one
abbrev pub IsFirstFault : List (List ℕ) → ℕ → Type 0
IsFirstFault lines number =
    ((1 ≤ number) × (number ≤ length lines) × BeginsScript (take (number - 1) lines) × (BeginsScript (take number lines) → ⊥))
    ⊎ ((number ≡ length lines + 1) × BeginsScript lines × (IsScript lines → ⊥))

-- the fault reported for a text
abbrev pub IsFaultOf : List (List ℕ) → ScriptFault → Type 0
IsFaultOf lines (Line number) = IsFirstFault lines number
IsFaultOf lines Memory = Unit {0}
