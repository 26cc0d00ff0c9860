-- The results of the functions that read a script, line by line.
use Rattle.std.specs.Prelude.{ℕ, ◌≡◌, ◌≤◌, ◌<◌, ◌^◌, List, [], ◌∷◌, ◌++◌, Ok, Option, Some, codes, length, map}
use Rattle.std.specs.List.{AllPass}
use Rattle.hex.specs.Hex.{decode_of}
use Rattle.rb_chapter_ring.specs.Chapters.{IsChapterRoom}
use Rattle.rb_world.specs.declared.actor.Actor.{Actor}
use Rattle.rb_world.specs.declared.actor.Actor.TheVariants.{Worker, Consumer, Keeper}
use Rattle.rb_world.specs.declared.world_setup.RingSetup.{RingSetup}
use Rattle.rb_world.specs.OpenedWorlds.{IsRingSetup}
use Rattle.rb_script.specs.declared.script.Script.{Script}
use Rattle.rb_script.specs.declared.script_fault.ScriptFault.{ScriptFault}
use Rattle.rb_script.specs.declared.script_fault.ScriptFault.TheVariants.{Line, Memory}
use Rattle.rb_script.specs.declared.script_line.ScriptLine.{ScriptLine}
use Rattle.rb_script.specs.declared.script_line.ScriptLine.TheVariants.{Ring, Worker as WorkerLine, Turns}
use Rattle.rb_script.specs.ScriptText.{Statement, Says, SaysWords, SaysWorker, IsStatementWithinBounds, words_of, is_plain, lines_of}
use Rattle.rb_script.specs.ScriptText.Statement.{RingOf, WorkerOf, TurnsOf}
use Rattle.rb_script.specs.Scripts.{LinesSay, MayStandBehind, IsMadeOf, script_rings, script_workers, actors_of, worker_text}

-- all numbers are present, and are those of a valid ring
pub record AreNumbersOf (size start room : Option ℕ) (setup : RingSetup) : Type 0 where
  pub size_is : size ≡ Some setup.size
  pub start_is : start ≡ Some setup.start
  pub room_is : room ≡ Some setup.room
  pub setup_fits : IsRingSetup setup
  pub room_fits : IsChapterRoom setup.room

-- the words describe a worker with this program, whose context has this hex, and no other worker
pub record IsWorkerText (words : List (List ℕ)) (program hex : List ℕ) : Type 0 where
  pub says : (context : List ℕ) → decode_of hex ≡ Ok context → SaysWorker words program context
  pub only : (other context : List ℕ) → SaysWorker words other context → (other ≡ program) × (decode_of hex ≡ Ok context)

-- the number of an actor, which must fit a u32
abbrev pub number_of : Actor → ℕ
number_of (Worker w) = w
number_of (Consumer r) = r
number_of (Keeper r) = r

abbrev pub HasSmallNumber : Statement → Type 0
HasSmallNumber (RingOf setup) = Unit {0}
HasSmallNumber (WorkerOf program context) = Unit {0}
HasSmallNumber (TurnsOf actor count) = number_of actor < 2 ^ 32

-- the words form this line; bounds are checked only for a ring, and a context's hex is not decoded yet
abbrev pub IsSaid : List (List ℕ) → ScriptLine → Type 0
IsSaid words (Ring setup) = SaysWords words (RingOf setup) × IsStatementWithinBounds (RingOf setup)
IsSaid words (WorkerLine program hex) = (more : List (List ℕ)) × (words ≡ codes "worker" ∷ more) × IsWorkerText more program.now hex.now
IsSaid words (Turns actor count) = SaysWords words (TurnsOf actor count)

-- the words form no statement
abbrev pub SaysNone : List (List ℕ) → Type 0
SaysNone words = (statement : Statement) → SaysWords words statement → IsStatementWithinBounds statement → HasSmallNumber statement → ⊥

-- the bytes form this line, or none
abbrev pub IsLine : List ℕ → ScriptLine → Type 0
IsLine bytes line = AllPass is_plain bytes × IsSaid (words_of bytes) line

abbrev pub IsNoLine : List ℕ → Type 0
IsNoLine bytes = (statement : Statement) → Says bytes statement → HasSmallNumber statement → ⊥

-- a statement is allowed after what was read
abbrev pub MayFollowScript : Script → Statement → Type 0
MayFollowScript s statement = MayStandBehind (length s.rings.items) (length s.workers.items) (length s.actors.items) statement

-- the statement of the line with this number was added
pub record Adds (number : ℕ) (statement : Statement) (old new : Script) : Type 0 where
  pub rings : new.rings.items ≡ old.rings.items ++ script_rings (statement ∷ [])
  pub workers : map worker_text new.workers.items ≡ map worker_text old.workers.items ++ script_workers number (statement ∷ [])
  pub actors : new.actors.items ≡ old.actors.items ++ actors_of (statement ∷ [])

pub record AddsLawful (number : ℕ) (statement : Statement) (old new : Script) : Type 0 where
  pub may : MayFollowScript old statement
  pub adds : Adds number statement old new

-- the fault is on the line with this number, and only if the condition does not hold
abbrev pub IsFaultUnless : ℕ → Type 0 → ScriptFault → Type 0
IsFaultUnless number lawful (Line line) = (line ≡ number) × (lawful → ⊥)
IsFaultUnless number lawful Memory = Unit {0}

-- adds a worker whose context has this hex
abbrev pub AddsWorker : ℕ → (program hex : List ℕ) → (old new : Script) → Type 0
AddsWorker number program hex old new =
    (context : List ℕ) × (decode_of hex ≡ Ok context) × (length context ≤ 65536) × AddsLawful number (WorkerOf program context) old new

abbrev pub MayAddWorker : Script → (program hex : List ℕ) → Type 0
MayAddWorker s program hex = (context : List ℕ) × (decode_of hex ≡ Ok context) × (length context ≤ 65536) × MayFollowScript s (WorkerOf program context)

abbrev pub AddsTurns : ℕ → Actor → ℕ → (old new : Script) → Type 0
AddsTurns number actor count old new = (1 ≤ count) × (count ≤ 1000000) × AddsLawful number (TurnsOf actor count) old new

abbrev pub MayAddTurns : Script → Actor → ℕ → Type 0
MayAddTurns s actor count = (1 ≤ count) × (count ≤ 1000000) × MayFollowScript s (TurnsOf actor count)

abbrev pub AddsLine : ℕ → List ℕ → (old new : Script) → Type 0
AddsLine number line old new = (statement : Statement) × Says line statement × AddsLawful number statement old new

abbrev pub MayAddLine : Script → List ℕ → Type 0
MayAddLine s line = (statement : Statement) × Says line statement × MayFollowScript s statement

-- these lines were read and their statements added, and the rest of the text remains to be read
pub record HasRead (text rest : List ℕ) (number : ℕ) (s : Script) : Type 0 where
  pub lines : List (List ℕ)
  pub said : List Statement
  pub parted : lines_of text ≡ lines ++ lines_of rest
  pub counted : length lines ≡ number
  pub begins : LinesSay lines said
  pub made : IsMadeOf said s
