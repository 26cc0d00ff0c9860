-- A world: workers that run programs, and the rings that they share.
use Rattle.std.specs.Prelude.{ℕ, ◌==◌, List, Option, if◌then◌else◌}
use Rattle.rb_verifier.specs.Subject.{Subject}
use Rattle.rb_semantics.specs.ProgramStates.{State}
use Rattle.rb_history.specs.declared.answers.Taken.{Taken}
use Rattle.rb_history.specs.RingModel.{Ring}

-- the place of a record: its ring, its position there, and how many records that ring had granted to its worker before
pub record RecordPlace : Type 0 where
  pub ring : ℕ
  pub pos : ℕ
  pub serial : ℕ

-- the records that a worker holds, each under the unit of the CALL that reserved it, as in its program's memory
abbrev pub HeldRecords : Type 0
HeldRecords = ℕ → Option RecordPlace

-- A worker is running, or its program ended with a result, or it reached an instruction without a meaning, or a record
-- was handed back to it.
pub data WorkerStatus : Type 0 where
  Running : WorkerStatus
  Finished : ℕ → WorkerStatus
  Halted : WorkerStatus
  Strayed : WorkerStatus

-- a worker: its program, the program's state, the records that it holds, and its status
pub record WorkerState : Type 0 where
  pub subject : Subject
  pub state : State
  pub held : HeldRecords
  pub status : WorkerStatus

-- a ring with its history, and what its consumer took, in order
pub record WorldRing : Type 0 where
  pub ring : Ring
  pub taken : List Taken

-- Workers are numbered from 0 to their count, exclusive, and rings from 0. A program refers to rings by low numbers
-- only.
pub record World : Type 0 where
  pub worker_count : ℕ
  pub workers : ℕ → WorkerState
  pub rings : ℕ → WorldRing

-- a table with another value at one index
abbrev pub table_with : {X : Type 0} → ℕ → X → (ℕ → X) → ℕ → X
table_with i x table j = if j == i then x else table j

-- the world with one worker, or one ring, replaced
abbrev pub with_worker : ℕ → WorkerState → World → World
with_worker w x world = record world { workers = table_with w x world.workers }

abbrev pub with_ring : ℕ → WorldRing → World → World
with_ring r b world = record world { rings = table_with r b world.rings }
