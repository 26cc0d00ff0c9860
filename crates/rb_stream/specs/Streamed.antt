-- The result of a stream (own).
use Rattle.std.specs.Prelude.{◌≡◌, ℕ, zero, suc, ◌+◌, ◌<◌, List, [], ◌++◌, length, map, slice_index_or}
use Rattle.std.specs.List.{sum_by}
use Rattle.rb_verifier.specs.Subject.{Subject}
use Rattle.rb_interp.specs.declared.completed_call.Done.{Done}
use Rattle.rb_interp.specs.AnsweredCalls.{notes_of}
use Rattle.rb_ledger.specs.Seats.{WorkerSeat}
use Rattle.rb_jobs.specs.SeatHelpers.{makes, submits, discards, fails, call_total, made_in, submitted_in, discarded_in}
use Rattle.rb_workers.specs.declared.opened.Opened.{Opened}
use Rattle.rb_workers.specs.Opened.{workers_of}
use Rattle.rb_workers.specs.Reports.{RingsEnd, refused_by_all}
use Rattle.rb_workers.specs.SeatRows.{seat_rows, worker_column}
use Rattle.rb_workers.specs.Sink.{SinkItem}
use Rattle.rb_source.specs.declared.source.SourceFault.{SourceFault}
use Rattle.rb_dealing.specs.Dealt.{DealtPiece, AreDealtAmong, contexts_in, dealt_to, dropped_in, saturated}
use Rattle.rb_stream_worker.specs.Results.{times_of, times_from}
use Rattle.rb_stream_worker.specs.Tasks.{StreamTask, TaskRun, tasks_of}
use Rattle.rb_stream_worker.specs.Turns.{RunsAs}
use Rattle.rb_stream_worker.specs.declared.when_full.WhenFull.{WhenFull}
use Rattle.rb_stream_worker.specs.declared.when_full.WhenFull.TheVariants.{Refuse}
use Rattle.rb_stream_worker.specs.ContextRuns.{IsBegun, results_of}
use Rattle.rb_stream_worker.specs.declared.result_counts.ResultCounts.{ResultCounts}
use Rattle.rb_stream.specs.Returned.{AreReturned}
use Rattle.rb_stream.specs.declared.report.StreamEnd.{StreamEnd}
use Rattle.rb_stream.specs.declared.report.StreamEnd.TheVariants.{Over, Failed}
use Rattle.rb_stream.specs.declared.report.StreamReport.{StreamReport}
use Rattle.rb_stream.specs.declared.report.StreamStop.{StreamStop}

-- ---- what workers ran

-- the lists of the workers 0 to count - 1, one after another
abbrev pub of_all : {A : Type 0} → ℕ → (ℕ → List A) → List A
of_all zero lists = []
of_all (suc count) lists = of_all count lists ++ lists count

-- the sum over the calls of these runs
abbrev pub times_in : (Done → ℕ) → List TaskRun → ℕ
times_in what runs = sum_by (λ run. call_total what (notes_of run.calls)) runs

-- the number of failures of these runs that no entry of a ring explains
abbrev pub unlogged_in : List TaskRun → ℕ
unlogged_in runs = sum_by (λ run. run.unlogged) runs

-- the counts of a worker's seats together grew by what the calls of these runs say
pub record HaveRisen (runs : List TaskRun) (old new : List WorkerSeat) : Type 0 where
  pub made_is : made_in new ≡ made_in old + times_in makes runs
  pub submitted_is : submitted_in new ≡ submitted_in old + times_in submits runs
  pub discarded_is : discarded_in new ≡ discarded_in old + times_in discards runs

-- The worker ran every program over each context that is done, in order, each run once, and possibly a prefix of the
-- programs over the first context that is left. The runs, one after another, led from the old state of its seats to the
-- new one, each following the program's semantics.
pub record RunsFirst (full : WhenFull) (worker : ℕ) (programs : List Subject) (runs : List TaskRun) (done left : List (List ℕ)) (old new : List WorkerSeat) : Type 0 where
  pub begun : List StreamTask
  pub begun_of : IsBegun (length programs) begun left
  pub tasks_are : map (λ run. run.task) runs ≡ tasks_of (length programs) done ++ begun
  pub in_turn : RunsAs full worker programs runs old new

-- ---- counts

-- each result below the bound has a separate count, and all others have one together
pub record CountsAll (bound : ℕ) (results : List ℕ) (counts : ResultCounts) : Type 0 where
  pub bound_is : length counts.below.items ≡ bound
  pub below_are : (r d : ℕ) → r < bound → slice_index_or counts.below.items r d ≡ saturated (times_of r results)
  pub other_is : counts.other ≡ saturated (times_from bound results)

-- for each program there are the counts of the results of its own runs
pub record CountsEach (programs bound : ℕ) (runs : List TaskRun) (counts : List ResultCounts) : Type 0 where
  pub as_many : length counts ≡ programs
  pub counts_are : (p : ℕ) (d : ResultCounts) → p < programs → CountsAll bound (results_of p runs) (slice_index_or counts p d)

-- ---- reports

-- The contexts that the source gave were dealt in pieces, each to one worker or to none. Each worker ran every program
-- over each context that was dealt to it, in order, each run once: the runs, one after another, led from the initial
-- state of its seats to the final one, each following the program's semantics. Each ring was closed with its row of
-- these seats. What was given, dropped and run, the results of each program's runs, and the unlogged failures were
-- counted. Each worker's seats grew by the calls of its own runs, and each null for flags 0 and each answer -EAGAIN is
-- a refusal in a ring's history, or unlogged.
pub record IsStreamedAs {S I : Type 0} (full : WhenFull) (position : S → ℕ) (takes : S → SinkItem → S → Type 0) (gives : I → List (List ℕ) → I → Type 0) (opened : List (Opened S)) (programs : List Subject) (bound : ℕ) (source later : I) (report : StreamReport S) : Type 0 where
  pub pieces : List DealtPiece
  pub runs : ℕ → List TaskRun
  pub seats : List (List WorkerSeat)
  pub gave : gives source (contexts_in pieces) later
  pub known : AreDealtAmong (workers_of opened) pieces
  pub tasks_are : (k : ℕ) → k < workers_of opened → map (λ run. run.task) (runs k) ≡ tasks_of (length programs) (dealt_to k pieces)
  pub in_turn : (k : ℕ) → k < workers_of opened → RunsAs full k programs (runs k) (worker_column k (seat_rows opened)) (worker_column k seats)
  pub rings_end : RingsEnd position takes opened report.rings.items seats
  pub contexts_are : report.contexts ≡ saturated (length (contexts_in pieces))
  pub dropped_are : report.dropped ≡ saturated (length (dropped_in pieces))
  pub ran_are : report.ran ≡ saturated (length (of_all (workers_of opened) (λ k. dealt_to k pieces)))
  pub results_are : CountsEach (length programs) bound (of_all (workers_of opened) runs) report.results.items
  pub unlogged_is : report.unlogged ≡ saturated (unlogged_in (of_all (workers_of opened) runs))
  pub numbers_rose : (k : ℕ) → k < workers_of opened → HaveRisen (runs k) (worker_column k (seat_rows opened)) (worker_column k seats)
  pub failures_add_up : refused_by_all seats + unlogged_in (of_all (workers_of opened) runs) ≡ refused_by_all (seat_rows opened) + times_in fails (of_all (workers_of opened) runs)

-- the same for a stream whose workers run contexts at once
abbrev pub IsStreamed : {S I : Type 0} → (S → ℕ) → (S → SinkItem → S → Type 0) → (I → List (List ℕ) → I → Type 0) → List (Opened S) → List Subject → ℕ → I → I → StreamReport S → Type 0
IsStreamed position takes gives opened programs bound source later report = IsStreamedAs Refuse position takes gives opened programs bound source later report

-- the meaning of a stream's end for its source
abbrev pub EndsSource : {I : Type 0} → (I → Type 0) → (I → SourceFault → Type 0) → I → StreamEnd → Type 0
EndsSource over fails source Over = over source
EndsSource over fails source (Failed fault) = fails source fault

-- ---- streams that stopped

-- The contexts that the source gave were dealt in pieces, each to one worker or to none, and each worker ran a prefix
-- of those that were dealt to it. All rings were returned, and may be run again. What was given and dropped, and the
-- contexts that were dealt and not run, were counted.
pub record IsStoppedAs {S I : Type 0} (full : WhenFull) (position : S → ℕ) (takes : S → SinkItem → S → Type 0) (gives : I → List (List ℕ) → I → Type 0) (opened : List (Opened S)) (programs : List Subject) (source later : I) (stop : StreamStop S) : Type 0 where
  pub pieces : List DealtPiece
  pub runs : ℕ → List TaskRun
  pub done : ℕ → List (List ℕ)
  pub left : ℕ → List (List ℕ)
  pub gave : gives source (contexts_in pieces) later
  pub known : AreDealtAmong (workers_of opened) pieces
  pub dealt_are : (k : ℕ) → k < workers_of opened → dealt_to k pieces ≡ done k ++ left k
  pub ran_first : (k : ℕ) → k < workers_of opened → RunsFirst full k programs (runs k) (done k) (left k) (worker_column k (seat_rows opened)) (worker_column k (seat_rows stop.opened.items))
  pub returned : AreReturned position takes opened stop.opened.items
  pub contexts_are : stop.contexts ≡ saturated (length (contexts_in pieces))
  pub dropped_are : stop.dropped ≡ saturated (length (dropped_in pieces))
  pub left_is : stop.left ≡ saturated (length (of_all (workers_of opened) left))

abbrev pub IsStopped : {S I : Type 0} → (S → ℕ) → (S → SinkItem → S → Type 0) → (I → List (List ℕ) → I → Type 0) → List (Opened S) → List Subject → I → I → StreamStop S → Type 0
IsStopped position takes gives opened programs source later stop = IsStoppedAs Refuse position takes gives opened programs source later stop
