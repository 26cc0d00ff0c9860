-- A run of one program over fresh rings, and what it leaves (own).
use Rattle.std.specs.Prelude.{◌≡◌, ◌≢◌, ℕ, zero, suc, ◌<◌, List, [], ◌∷◌, ◌++◌, All, Some, IsSome, length, replicate}
use Rattle.rb_program.specs.Program.{unit_count}
use Rattle.rb_explain.specs.Joined.{joined_below}
use Rattle.rb_history.specs.Calls.{AllTaken}
use Rattle.rb_history.specs.TapeBytes.{Item, AreItemsFrom, tape}
use Rattle.rb_world.specs.declared.actor.Actor.{Actor}
use Rattle.rb_world.specs.declared.actor.Actor.TheVariants.{Consumer, Worker}
use Rattle.rb_verifier.specs.Subject.{Subject}
use Rattle.rb_world.specs.OpenedWorlds.{IsOpenedWorld}
use Rattle.rb_world.specs.TakenTapes.{taken_items}
use Rattle.rb_world.specs.WorldRuns.{IsRunOf, TakesTurns, result_of}
use Rattle.rb_world.specs.WorldValue.{WorldValue, world_of}
use Rattle.rb_world.specs.declared.world_setup.RingSetup.{RingSetup}
use Rattle.rb_world.specs.declared.world_setup.WorkerSetup.{WorkerSetup}
use Rattle.rb_world.specs.declared.turn_done.TurnDone.{TurnDone}
use Rattle.rb_world.specs.declared.turn_done.TurnDone.TheVariants.{Memory}
use Rattle.heskavo_c.specs.Verdicts.{AreBounds, BytesAreAccepted}
use Rattle.rb_history.specs.RingModel.{IsRingSize}
use Rattle.heskavo_c.specs.Writing.{WritesFront}

-- ---- the run

-- a program may run over a context of `context` bytes and `rings` rings of this size
abbrev pub MayRunOnce : ℕ → ℕ → ℕ → Type 0
MayRunOnce context rings size = AreBounds context rings × IsRingSize size

-- an empty ring of this size that starts at position 0; its chapters have room for everything that 4,096 units can log
abbrev pub fresh_ring : ℕ → RingSetup
fresh_ring size = record { size = size; start = 0; room = 16384 }

-- the worker's program has a turn for each of its units, and then the consumer of each ring below this number has as
-- many
abbrev pub turns_alone : ℕ → ℕ → List Actor
turns_alone units zero = replicate units (Worker 0)
turns_alone units (suc ring) = turns_alone units ring ++ replicate units (Consumer ring)

-- The program ran over this context and fresh rings of this size, as many as it was verified for; then what it left in
-- them was taken, which led to this world. No turn failed for lack of memory, and each call of the program that got no
-- record had a reason.
pub record RunsAlone (subject : Subject) (context : List ℕ) (size : ℕ) (last : WorldValue) : Type 0 where
  pub worker : WorkerSetup
  pub first : WorldValue
  pub dones : List TurnDone
  pub program_is : worker.program.now ≡ subject
  pub context_is : worker.context.now ≡ context
  pub opened : IsOpenedWorld (replicate subject.rings (fresh_ring size)) (worker ∷ []) first
  pub ran : IsRunOf (turns_alone (unit_count subject.program) subject.rings) first dones last
  pub turned : TakesTurns (turns_alone (unit_count subject.program) subject.rings) first dones last
  pub remembered : All (λ done. done ≢ Memory) dones

-- ---- what it left

-- what was taken from the ring with this number, as the records of a tape
abbrev pub items_left : WorldValue → ℕ → List Item
items_left world ring = taken_items ((world_of world).rings ring).taken

abbrev pub tape_left : WorldValue → ℕ → ℕ → List ℕ
tape_left world size ring = tape size (items_left world ring)

-- nothing is left in the ring with this number: its producer and consumer positions are equal
abbrev pub IsDrained : WorldValue → ℕ → Type 0
IsDrained world ring = AllTaken ((world_of world).rings ring).ring

-- A run has ended: the program of its only worker returned a value, and what it left in each of its rings was taken,
-- and forms a tape from position 0.
pub record RunEnds (subject : Subject) (size : ℕ) (last : WorldValue) : Type 0 where
  pub there : 0 < length last.machines
  pub ended : IsSome (result_of ((world_of last).workers 0))
  pub follow : (ring : ℕ) → ring < subject.rings → AreItemsFrom size 0 (items_left last ring)
  pub drained : (ring : ℕ) → ring < subject.rings → IsDrained last ring

-- the lengths of the tapes of the rings below this number
abbrev pub lengths_below : (ℕ → List ℕ) → ℕ → List ℕ
lengths_below text zero = []
lengths_below text (suc ring) = lengths_below text ring ++ length (text ring) ∷ []

-- The bytes are the tapes of the rings below this number, one after the other, and these are their lengths. Each ring's
-- records follow one another from position 0, and nothing is left in the ring.
pub record LeavesTapes (world : WorldValue) (size rings : ℕ) (bytes lengths : List ℕ) : Type 0 where
  pub tapes_are : bytes ≡ joined_below (tape_left world size) rings
  pub lengths_are : lengths ≡ lengths_below (tape_left world size) rings
  pub length_for_each : length lengths ≡ rings
  pub follow : (ring : ℕ) → ring < rings → AreItemsFrom size 0 (items_left world ring)
  pub drained : (ring : ℕ) → ring < rings → IsDrained world ring

-- a verified program was run once over this context and fresh rings of this size, returned this value, and left these
-- tapes
pub record LeavesOnce (subject : Subject) (context : List ℕ) (size value : ℕ) (bytes lengths : List ℕ) : Type 0 where
  pub last : WorldValue
  pub ran : RunsAlone subject context size last
  pub ended : result_of ((world_of last).workers 0) ≡ Some value
  pub left : LeavesTapes last size subject.rings bytes lengths

-- the program with these bytes was accepted for the context and as many rings as there are lengths, and was run once
pub record RanOnce (program context : List ℕ) (size value : ℕ) (bytes lengths : List ℕ) : Type 0 where
  pub subject : Subject
  pub accepted : BytesAreAccepted program (length context) (length lengths) subject
  pub left : LeavesOnce subject context size value bytes lengths

-- the same, and the tapes are at the front of the buffer
pub record RunsInto (program context : List ℕ) (size value : ℕ) (old new lengths : List ℕ) : Type 0 where
  pub bytes : List ℕ
  pub ran : RanOnce program context size value bytes lengths
  pub written : WritesFront bytes old new

-- the program was run once, and its tapes are longer than the buffer
pub record WantsTapes (program context : List ℕ) (size : ℕ) (buffer lengths : List ℕ) : Type 0 where
  pub value : ℕ
  pub bytes : List ℕ
  pub ran : RanOnce program context size value bytes lengths
  pub longer : length buffer < length bytes
