-- What contracts see of a world, and the world of the definitions that it represents (own).
use Rattle.std.specs.Prelude.{ℕ, ◌<◌, List, [], None, option_map, length, map}
use Rattle.std.specs.List.{slice_index_or}
use Rattle.rb_history.specs.declared.answers.Taken.{Taken}
use Rattle.rb_history.specs.RingModel.{fresh}
use Rattle.rb_chapter_ring.specs.Chapters.{Chapter, joined}
use Rattle.rb_chapter_ring.specs.ChapterRing.{whole_ring}
use Rattle.rb_chapter_ring.specs.OpenedRing.{opened_ring}
use Rattle.rb_chapter_ring.specs.TaggedRing.{TaggedRing}
use Rattle.rb_chapter_ring.specs.Hands.{free_book}
use Rattle.rb_chapter_ring.specs.HandRing.{hand_ring}
use Rattle.rb_semantics.specs.ProgramStates.{entry_program_state}
use Rattle.rb_interp.specs.MachineState.{MachineState}
use Rattle.rb_interp.specs.StoredMemory.{held_record}
use Rattle.rb_interp.specs.declared.step.Phase.{Phase}
use Rattle.rb_interp.specs.declared.step.Phase.TheVariants as phase
use Rattle.rb_world.specs.declared.actor.Actor.{Actor}
use Rattle.rb_world.specs.declared.actor.Actor.TheVariants.{Worker, Consumer, Keeper}
use Rattle.rb_world.specs.Worlds.{RecordPlace, HeldRecords, WorkerStatus, Running, Finished, Halted, Strayed, WorkerState, WorldRing, World}
use Rattle.rb_chapter_ring.specs.declared.ring_record.RingRecord.{RingRecord}

-- a ring, the chapters that it handed out (oldest first), and what was taken from it
pub record KeptRing : Type 0 where
  pub ring : TaggedRing
  pub chapters : List Chapter
  pub taken : List Taken

-- the ring with its whole history: the entries of the chapters that were handed out, then those of the current one
abbrev pub world_ring : KeptRing → WorldRing
world_ring s = record { ring = whole_ring (joined s.chapters) s.ring.state.ring; taken = s.taken }

-- each worker's machine, and each ring
pub record WorldValue : Type 0 where
  pub rings : List KeptRing
  pub machines : List (MachineState RingRecord)

-- the same, each ring with its whole history
pub record WholeWorld : Type 0 where
  pub rings : List WorldRing
  pub machines : List (MachineState RingRecord)

abbrev pub whole_world : WorldValue → WholeWorld
whole_world v = record { rings = map world_ring v.rings; machines = v.machines }

-- the place of a record
abbrev pub place_of : RingRecord → RecordPlace
place_of owned = record { ring = owned.ring; pos = owned.reservation.granted.pos; serial = owned.reservation.granted.serial }

-- between turns, no machine waits for an answer
abbrev pub status_of_phase : Phase → WorkerStatus
status_of_phase phase.Ready = Running
status_of_phase (phase.Waiting asked) = Halted
status_of_phase (phase.Exited n) = Finished n
status_of_phase phase.Strayed = Strayed

-- the records that a machine holds
abbrev pub held_by : MachineState RingRecord → HeldRecords
held_by m = λ id. option_map place_of (held_record id m.records)

-- the worker that a machine represents
abbrev pub worker_of : MachineState RingRecord → WorkerState
worker_of m = record { subject = m.program; state = m.state; held = held_by m; status = status_of_phase m.phase }

-- the default for a worker that does not exist
abbrev pub no_worker : WorkerState
no_worker = record { subject = record { program = []; ctx_len = 0; rings = 0 }; state = entry_program_state []; held = λ id. None; status = Finished 0 }

-- the defaults for rings that do not exist
abbrev pub no_kept_ring : KeptRing
no_kept_ring = record { ring = record { tag = 0; state = hand_ring (opened_ring 8 (record { size = 4096; start = 0; workers = 1 })) (free_book 1) }; chapters = []; taken = [] }

abbrev pub no_ring : ℕ → WorldRing
no_ring workers = record { ring = fresh 4096 0 workers; taken = [] }

-- the world of the definitions
abbrev pub shown_world : WholeWorld → World
shown_world v = record {
  worker_count = length v.machines;
  workers = λ w. slice_index_or (map worker_of v.machines) w no_worker;
  rings = λ r. slice_index_or v.rings r (no_ring (length v.machines));
}

abbrev pub world_of : WorldValue → World
world_of v = shown_world (whole_world v)

-- the ring with this number
abbrev pub ring_at : WorldValue → ℕ → KeptRing
ring_at v r = slice_index_or v.rings r no_kept_ring

-- the actor exists
abbrev pub IsThere : WorldValue → Actor → Type 0
IsThere v (Worker w) = w < length v.machines
IsThere v (Consumer r) = r < length v.rings
IsThere v (Keeper r) = r < length v.rings
