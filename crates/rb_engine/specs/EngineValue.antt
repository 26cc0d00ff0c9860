-- The view that contracts have of an engine, and the effect of a run of one of its programs (own).
use Rattle.std.specs.Prelude.{ℕ, ◌≡◌, ◌≢◌, List, Err, Ok, Result, Some, slice_get}
use Rattle.rb_chapter_ring.specs.HandRing.{HandRing}
use Rattle.rb_chapter_ring.specs.RingRecords.{reserved_bytes, with_record_bytes}
use Rattle.rb_chapter_ring.specs.declared.ring_record.RingRecord.{RingRecord}
use Rattle.rb_interp.specs.AnsweredCalls.{AnsweredCall}
use Rattle.rb_interp.specs.RunTraces.{RunMatches, TellsLength}
use Rattle.rb_interp.specs.declared.fault.RunFault.{RunFault}
use Rattle.rb_interp.specs.declared.fault.RunFault.TheVariants.{Stray}
use Rattle.rb_verifier.specs.Subject.{Subject}
use Rattle.rb_engine.specs.EngineCalls.{RingsLead}

-- its rings, each with its hands, by their numbers; its programs, by theirs; and the length of every run's context
pub record EngineValue : Type 0 where
  pub rings : List HandRing
  pub programs : List Subject
  pub ctx_len : ℕ

-- A program was run over these rings, as the previous calls left them. It made these calls, with these answers. They
-- are those of the program's semantics, which has this result. No record was handed back, and the calls lead from the
-- first state of the rings to the second.
pub record RunsOver (program : Subject) (context : List ℕ) (result : Result ℕ RunFault) (old new : List HandRing) : Type 0 where
  pub calls : List (AnsweredCall RingRecord)
  pub length_is : TellsLength program context result
  pub shows : RunMatches reserved_bytes with_record_bytes program context calls result
  pub never_stray : result ≢ Err Stray
  pub led : RingsLead old calls new

-- the program with this number was run over the engine's rings, and returned this value
pub record RunsProgram (number : ℕ) (context : List ℕ) (value : ℕ) (old new : EngineValue) : Type 0 where
  pub program : Subject
  pub program_is : slice_get old.programs number ≡ Some program
  pub ran : RunsOver program context (Ok value) old.rings new.rings
