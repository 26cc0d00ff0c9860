-- When a world may be opened, and its state then (own).
use Rattle.std.specs.Prelude.{ℕ, ◌≡◌, ◌≤◌, ◌+◌, List, [], ◌∷◌, All, length}
use Rattle.std.specs.List.{AllZip}
use Rattle.rb_history.specs.RingModel.{IsRingSize, IsStartPosition, IsWorkerCount}
use Rattle.rb_chapter_ring.specs.Chapters.{IsChapterRoom}
use Rattle.rb_chapter_ring.specs.OpenedRing as chapter_ring
use Rattle.rb_chapter_ring.specs.Hands.{free_book}
use Rattle.rb_chapter_ring.specs.HandRing.{hand_ring}
use Rattle.rb_semantics.specs.ProgramStates.{entry_program_state}
use Rattle.rb_interp.specs.MachineState.{MachineState}
use Rattle.rb_interp.specs.declared.step.Phase.TheVariants.{Ready}
use Rattle.rb_world.specs.OpeningWorld.{BeginsVerified}
use Rattle.rb_world.specs.declared.world_setup.RingSetup.{RingSetup}
use Rattle.rb_world.specs.declared.world_setup.WorkerSetup.{WorkerSetup}
use Rattle.rb_chapter_ring.specs.declared.ring_record.RingRecord.{RingRecord}
use Rattle.rb_world.specs.WorldValue.{KeptRing, WorldValue, worker_of}

-- a ring's size and start are within their bounds
pub record IsRingSetup (s : RingSetup) : Type 0 where
  pub size : IsRingSize s.size
  pub start : IsStartPosition s.start

-- the size and start of every ring are within their bounds
abbrev pub AreRings : List RingSetup → Type 0
AreRings rings = All IsRingSetup rings

-- the chapters of every ring have a valid room
abbrev pub HaveRooms : List RingSetup → Type 0
HaveRooms rings = All (λ s. IsChapterRoom s.room) rings

-- every context has the length that its program was verified for
abbrev pub HaveContexts : List WorkerSetup → Type 0
HaveContexts workers = All (λ x. length x.context.now ≡ x.program.now.ctx_len) workers

-- there are at most 16 rings, and at least as many as each program was verified for
abbrev pub HaveRings : ℕ → List WorkerSetup → Type 0
HaveRings rings workers = (rings ≤ 16) × All (λ x. x.program.now.rings ≤ rings) workers

-- a world may be opened with these rings and these workers
pub record MayOpen (rings : List RingSetup) (workers : List WorkerSetup) : Type 0 where
  pub are_rings : AreRings rings
  pub contexts : HaveContexts workers
  pub ring_count : HaveRings (length rings) workers
  pub worker_count : IsWorkerCount (length workers)
  pub rooms : HaveRooms rings

-- an empty ring with this number, for this many workers, in its first chapter and with all hands free
abbrev pub opened_kept_ring : ℕ → ℕ → RingSetup → KeptRing
opened_kept_ring workers number s = record {
  ring = record { tag = number; state = hand_ring (chapter_ring.opened_ring s.room (record { size = s.size; start = s.start; workers = workers })) (free_book workers) };
  chapters = [];
  taken = [];
}

-- the rings, numbered consecutively from a first number
abbrev pub opened_rings : ℕ → ℕ → List RingSetup → List KeptRing
opened_rings workers number [] = []
opened_rings workers number (s ∷ rings) = opened_kept_ring workers number s ∷ opened_rings workers (number + 1) rings

-- a machine is at the first instruction of a worker's program, with its context, and holds no record
pub record IsStarted (x : WorkerSetup) (m : MachineState RingRecord) : Type 0 where
  pub program : m.program ≡ x.program.now
  pub state : m.state ≡ entry_program_state x.context.now
  pub records : m.records ≡ []
  pub phase : m.phase ≡ Ready
  pub begins : BeginsVerified (worker_of m)

-- the world has the rings and workers that were requested, in order, in their initial states
pub record IsOpenedWorld (rings : List RingSetup) (workers : List WorkerSetup) (v : WorldValue) : Type 0 where
  pub rings_are : v.rings ≡ opened_rings (length workers) 0 rings
  pub machines_are : AllZip IsStarted workers v.machines
