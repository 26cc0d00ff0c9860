-- The answers of an actual ring, in terms of a world's ring.
use Rattle.std.specs.Prelude.{ℕ, ℤ, ◌≡◌, List, [], Option, Some, None, replicate}
use Rattle.rb_history.specs.ReservationModel.{Granted}
use Rattle.rb_history.specs.declared.entries.Entry.{Entry}
use Rattle.rb_history.specs.RingModel.{Ring}
use Rattle.rb_chapter_ring.specs.ChapterRing.{ChapterRing, whole_ring}
use Rattle.rb_chapter_ring.specs.WholeHistory.{IsKept}
use Rattle.rb_semantics.specs.HelperCalls.{Code}
use Rattle.rb_world.specs.Worlds.{WorldRing}
use Rattle.rb_world.specs.CallsInWorld.{RecordOutcome, Made, WorkerReserves, WorkerOutputs, answer_to_output}

-- a ring from which nothing was taken
abbrev pub untaken_ring : Ring → WorldRing
untaken_ring v = record { ring = v; taken = [] }

-- what a reserve returns: the record that was made, filled with zeros, or nothing if none was made
abbrev pub GivesRecord : (w len : ℕ) → RecordOutcome → Option Granted → Type 0
GivesRecord w len (Made p k) (Some r) = r ≡ record { pos = p; worker = w; serial = k; bytes = replicate len 0 }
GivesRecord w len (Made p k) None = ⊥
GivesRecord w len outcome (Some r) = ⊥
GivesRecord w len outcome None = Unit {0}

-- a worker's reserve had one of its outcomes and returned this
abbrev pub IsReserved : Ring → Ring → (w len flags : ℕ) → Option Granted → Type 0
IsReserved old new w len flags given = (outcome : RecordOutcome) × GivesRecord w len outcome given × WorkerReserves w len flags outcome (untaken_ring old) (untaken_ring new)

-- a worker's output had one of its outcomes and returned this code
abbrev pub IsOutput : Ring → Ring → (w : ℕ) → List ℕ → (flags : ℕ) → ℤ → Type 0
IsOutput old new w bytes flags code = (outcome : RecordOutcome) × (answer_to_output outcome ≡ Code code) × WorkerOutputs w bytes flags outcome (untaken_ring old) (untaken_ring new)

-- ---- the ring that keeps a chapter

-- whatever history came before the chapter, the ring with its whole history made this step and keeps its chapter
abbrev pub IsWholeAnswer : (Ring → Ring → Type 0) → ChapterRing → ChapterRing → Type 0
IsWholeAnswer answer old new = (earlier : List Entry) → IsKept earlier old.chapter → IsKept earlier new.chapter × answer (whole_ring earlier old) (whole_ring earlier new)
