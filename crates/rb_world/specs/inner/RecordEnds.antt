-- The effect of a record's end on the world.
use Rattle.rb_history.specs.ReservationModel.{Granted}
use Rattle.rb_semantics.specs.HelperCalls.{HelperAnswer}
use Rattle.rb_world.specs.Worlds.{WorldRing}
use Rattle.rb_world.specs.CallsInWorld.{WorkerSubmits, WorkerDiscards}
use Rattle.rb_chapter_ring.specs.declared.record_end.RecordEnd.{RecordEnd}
use Rattle.rb_chapter_ring.specs.declared.record_end.RecordEnd.TheVariants.{Submit, Discard}

-- the worker's call, on the ring with its whole history
abbrev pub WorkerEnds : RecordEnd → Granted → HelperAnswer → WorldRing → WorldRing → Type 0
WorkerEnds Submit r answer old new = WorkerSubmits r answer old new
WorkerEnds Discard r answer old new = WorkerDiscards r answer old new
