-- How calls are appended to the trace of a run.
use Rattle.std.specs.Prelude.{ℕ, ◌-◌, Bool, [], ◌∷◌, ◌++◌}
use Rattle.rb_chapter_ring.specs.declared.record_end.RecordEnd.{RecordEnd}
use Rattle.rb_chapter_ring.specs.declared.record_end.RecordEnd.TheVariants as end
use Rattle.rb_interp.specs.AnsweredCalls.{AnsweredCall, Submitted, Discarded}
use Rattle.rb_interp.specs.declared.completed_call.Done.{Done}
use Rattle.rb_interp.specs.declared.completed_call.Done.TheVariants.{Submit, Discard}
use Rattle.rb_chapter_ring.specs.declared.ring_record.RingRecord.{RingRecord}
use Rattle.rb_engine.specs.EngineCalls.{RunRings}

-- the trace with one more call, and room for one less
abbrev pub with_call : RunRings → Done → RunRings
with_call h done = record h { trace = h.trace ++ done ∷ []; room = h.room - 1 }

abbrev pub ended_call : RecordEnd → RingRecord → ℕ → Bool → AnsweredCall RingRecord
ended_call end.Submit r flags taken = Submitted r flags taken
ended_call end.Discard r flags taken = Discarded r flags taken

abbrev pub ended_note : RecordEnd → ℕ → Bool → Done
ended_note end.Submit flags taken = Submit flags taken
ended_note end.Discard flags taken = Discard flags taken
