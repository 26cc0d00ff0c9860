-- The effect of a stream on the seats of its workers.
use Rattle.std.specs.Prelude.{◌≡◌, ℕ, ◌<◌, List, [], ◌++◌, false, Option, None, Some, length, slice_get}
use Rattle.rb_verifier.specs.Subject.{Subject}
use Rattle.rb_ledger.specs.Seats.{WorkerSeat}
use Rattle.rb_dealing.specs.Dealt.{DealtPiece, AreDealtAmong, contexts_in, dealt_to, dropped_in, saturated}
use Rattle.rb_dealing.specs.declared.reader.Dealt.{Dealt}
use Rattle.rb_dealing.specs.declared.reader.DealEnd.{DealEnd}
use Rattle.rb_dealing.specs.declared.reader.DealEnd.TheVariants.{Over as DealOver, Failed as DealFailed}
use Rattle.rb_stream_worker.specs.Tasks.{TaskRun}
use Rattle.rb_stream_worker.specs.declared.stream_counts.StreamCounts.{StreamCounts}
use Rattle.rb_stream_worker.specs.declared.when_full.WhenFull.{WhenFull}
use Rattle.rb_workers.specs.declared.workers.Worker.{Worker}
use Rattle.rb_stream.specs.Streamed.{CountsEach, RunsFirst, of_all, unlogged_in}
use Rattle.rb_stream.specs.declared.report.StreamEnd.{StreamEnd}
use Rattle.rb_stream.specs.declared.report.StreamEnd.TheVariants.{Over, Failed}

-- the seats of one of the workers
abbrev pub seats_in : Option Worker → List WorkerSeat
seats_in None = []
seats_in (Some worker) = worker.seats.items

abbrev pub seats_of : List Worker → ℕ → List WorkerSeat
seats_of workers k = seats_in (slice_get workers k)

-- The contexts that the source gave were dealt in pieces, and each worker ran a prefix of those that were dealt to it,
-- which led from the old state of its seats to the new one; it ran all of them unless it stopped. Everything was
-- counted.
pub record StreamRan {I : Type 0} (gives : I → List (List ℕ) → I → Type 0) (count : ℕ) (programs : List Subject) (full : WhenFull) (bound : ℕ) (source later : I) (old new : ℕ → List WorkerSeat) (dealt : Dealt) (total : StreamCounts) : Type 0 where
  pub pieces : List DealtPiece
  pub runs : ℕ → List TaskRun
  pub done : ℕ → List (List ℕ)
  pub left : ℕ → List (List ℕ)
  pub gave : gives source (contexts_in pieces) later
  pub known : AreDealtAmong count pieces
  pub dealt_are : (k : ℕ) → k < count → dealt_to k pieces ≡ done k ++ left k
  pub ran_first : (k : ℕ) → k < count → RunsFirst full k programs (runs k) (done k) (left k) (old k) (new k)
  pub none_left : total.stopped ≡ false → (k : ℕ) → k < count → left k ≡ []
  pub contexts_are : dealt.contexts ≡ saturated (length (contexts_in pieces))
  pub dropped_are : dealt.dropped ≡ saturated (length (dropped_in pieces))
  pub ran_are : total.contexts ≡ saturated (length (of_all count done))
  pub left_is : total.left ≡ saturated (length (of_all count left))
  pub results_are : CountsEach (length programs) bound (of_all count runs) total.results.items
  pub unlogged_is : total.unlogged ≡ saturated (unlogged_in (of_all count runs))

-- the end of a stream as the reader reports it
abbrev pub reported_as : StreamEnd → DealEnd
reported_as Over = DealOver
reported_as (Failed fault) = DealFailed fault
