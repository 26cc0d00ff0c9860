-- The initial states of a world.
use Rattle.std.specs.Prelude.{ℕ, ◌≡◌, ◌<◌, List, [], None, length}
use Rattle.rb_program.specs.Shape.{IsWellShaped, IsInstructionStart}
use Rattle.rb_verifier.specs.Annotation.{HasValid}
use Rattle.rb_verifier.specs.Subject.{limits_of}
use Rattle.rb_semantics.specs.ProgramStates.{entry_program_state}
use Rattle.rb_history.specs.RingModel.{fresh}
use Rattle.rb_world.specs.declared.actor.Actor.{Actor}
use Rattle.rb_world.specs.declared.actor.Actor.TheVariants.{Worker, Consumer, Keeper}
use Rattle.rb_world.specs.Worlds.{Running, WorkerState, WorldRing, World}

-- a worker at the first instruction of a verified program, with a context of the verified length, holding no record
pub record BeginsVerified (x : WorkerState) : Type 0 where
  pub well_shaped : IsWellShaped x.subject.program
  pub begins : IsInstructionStart x.subject.program 0
  pub verified : HasValid (limits_of x.subject) x.subject.program
  pub context : List ℕ
  pub context_length : length context ≡ x.subject.ctx_len
  pub state_is : x.state ≡ entry_program_state context
  pub holds_none : (id : ℕ) → x.held id ≡ None
  pub runs : x.status ≡ Running

-- a ring of any size and start, even out of a ring's bounds, for this many workers and with an empty history
pub record IsFreshRing (workers : ℕ) (b : WorldRing) : Type 0 where
  pub size : ℕ
  pub start : ℕ
  pub ring_is : b.ring ≡ fresh size start workers
  pub taken_none : b.taken ≡ []

pub record IsOpeningWorld (world : World) : Type 0 where
  pub workers : (w : ℕ) → w < world.worker_count → BeginsVerified (world.workers w)
  pub rings : (r : ℕ) → IsFreshRing world.worker_count (world.rings r)

-- the actor exists
abbrev pub IsActor : ℕ → Actor → Type 0
IsActor workers (Worker w) = w < workers
IsActor workers (Consumer r) = Unit {0}
IsActor workers (Keeper r) = Unit {0}
