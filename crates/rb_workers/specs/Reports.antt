-- The report on a run of jobs over rings (own).
use Rattle.std.specs.Prelude.{◌≡◌, ◌≢◌, All, ℕ, ◌+◌, ◌<◌, nat_lt, not, List, [], ◌∷◌, ◌++◌, Bool, map, Result, Ok, Err, OnOk}
use Rattle.std.specs.List.{AllZip, count_by, list_any, sum_by}
use Rattle.rb_interp.specs.declared.completed_call.Done.{Done}
use Rattle.rb_interp.specs.AnsweredCalls.{AllMayAnswer, notes_of}
use Rattle.rb_history.specs.RingModel.{Ring}
use Rattle.rb_chapter_ring.specs.ChapterCalls.{consumer_by_chapter}
use Rattle.rb_interp.specs.declared.fault.RunFault.TheVariants.{Stray}
use Rattle.rb_interp.specs.RunTraces.{RunMatches, TellsLength, TraceBalances}
use Rattle.rb_ledger.specs.Roles.{BeginsWith, book_of}
use Rattle.rb_ledger.specs.Seats.{WorkerSeat, IsSameSeat}
use Rattle.rb_ledger.specs.ChapteredRing.{chaptered_ring, whole_of}
use Rattle.rb_ledger.specs.ChapterSeats.{ChapterConsumerSeat}
use Rattle.rb_ledger.specs.ChapterClosing.{IsClosedByChapters}
use Rattle.rb_shared_ring.specs.SharedSeats.{IsSameChapterConsumer}
use Rattle.rb_jobs.specs.SeatLaws.{SeatBegins}
use Rattle.rb_chapter_ring.specs.RingRecords.{reserved_bytes, with_record_bytes}
use Rattle.rb_jobs.specs.SeatHelpers.{makes, submits, discards, fails, call_total, made_in, refused_in, submitted_in, discarded_in}
use Rattle.rb_jobs.specs.declared.job.Job.{Job}
use Rattle.rb_workers.specs.declared.opened.Opened.{Opened}
use Rattle.rb_workers.specs.declared.opened.Ended.{Ended}
use Rattle.rb_workers.specs.declared.opened.JobsReport.{JobsReport}
use Rattle.rb_workers.specs.declared.opened.JobFault.{JobFault}
use Rattle.rb_workers.specs.JobRuns.{JobRun, RunsInTurn, own_jobs, own_runs, is_stray}
use Rattle.rb_workers.specs.Opened.{AreOpened, IsKeeperFor, SinkGetsTaken, workers_of}
use Rattle.rb_workers.specs.SeatRows.{seat_rows, worker_column}
use Rattle.rb_workers.specs.Sink.{SinkItem, GetsTaken}

-- ---- refusals

-- some job's program was verified for more rings than there are
abbrev pub has_unknown_ring : ℕ → List Job → Bool
has_unknown_ring rings jobs = list_any (λ j. nat_lt rings j.program.now.rings) jobs

-- some job names a worker that does not exist
abbrev pub has_unknown_worker : ℕ → List Job → Bool
has_unknown_worker count jobs = list_any (λ j. not (nat_lt j.worker count)) jobs

-- the call was refused with this fault
abbrev pub IsRefusedFor : {T B : Type 0} → JobFault → Result T (JobFault × B) → Type 0
IsRefusedFor fault (Ok _) = ⊥
IsRefusedFor fault (Err e) = e.0 ≡ fault

-- the worker ran a prefix of these jobs, which led from the old state of its seats to the new one
abbrev pub RunsFirst : List Job → List WorkerSeat → List WorkerSeat → Type 0
RunsFirst jobs old new = (runs : List JobRun) × (left : List Job) × (jobs ≡ map (λ run. run.job) runs ++ left) × RunsInTurn runs old new

-- Everything was returned in its place, and may be run again: the same rings, seats and consumers; what each seat and
-- each consumer has seen begins with what it had seen; each sink was given exactly what its ring's consumer took and
-- handed out; and each worker ran a prefix of its own jobs.
pub record IsHandedBack {S : Type 0} (position : S → ℕ) (takes : S → SinkItem → S → Type 0) (opened : List (Opened S)) (jobs : List Job) (back : List (Opened S)) : Type 0 where
  pub rings_same : map (λ o. o.ring) back ≡ map (λ o. o.ring) opened
  pub seats_same : AllZip (AllZip IsSameSeat) (seat_rows opened) (seat_rows back)
  pub seats_begin : AllZip (AllZip SeatBegins) (seat_rows opened) (seat_rows back)
  pub consumers_same : AllZip (λ o b. IsSameChapterConsumer o.consumer b.consumer) opened back
  pub consumers_begin : AllZip (λ o b. BeginsWith b.consumer.seen o.consumer.seen) opened back
  pub sinks_given : AllZip (SinkGetsTaken takes) opened back
  pub runs_again : AreOpened position back
  pub workers_same : workers_of back ≡ workers_of opened
  pub worked : (k : ℕ) → k < workers_of opened → RunsFirst (own_jobs k jobs) (worker_column k (seat_rows opened)) (worker_column k (seat_rows back))

-- ---- reports

-- the ring at its end, with its whole history: the entries of the chapters that the consumer was handed, then those of
-- the last one
abbrev pub ring_at_end : {S : Type 0} → ChapterConsumerSeat → Ended S → Ring
ring_at_end consumer ended = whole_of (chaptered_ring consumer.handed_out ended.closing.at_end)

-- The opened ring was closed, with these seats and a consumer, which are those that it was opened with. Its setup is
-- the one that they had seen, and its whole history begins with what each of them had seen. The tallies are the seats'.
-- The keeper still fits the ring. The sink is the one that it was opened with: it was given exactly the records that
-- the whole history took since, and the chapters that were handed out since, which together with the last one are a
-- ring's; and its position is the consumer position there.
pub record RingEnds {S : Type 0} (position : S → ℕ) (takes : S → SinkItem → S → Type 0) (o : Opened S) (ended : Ended S) (seats : List WorkerSeat) : Type 0 where
  pub consumer : ChapterConsumerSeat
  pub which : ended.closing.shared ≡ o.ring
  pub closed : IsClosedByChapters ended.closing.at_end seats consumer
  pub begins : BeginsWith (book_of (ring_at_end consumer ended)) o.consumer.seen
  pub seats_begin : All (λ s. BeginsWith (book_of (ring_at_end consumer ended)) s.seen) o.seats.items
  pub same_seats : AllZip IsSameSeat o.seats.items seats
  pub same_consumer : IsSameChapterConsumer o.consumer consumer
  pub keeper_fits : IsKeeperFor consumer ended.keeper
  pub sink_given : GetsTaken takes o.consumer consumer (ring_at_end consumer ended).history o.sink ended.sink
  pub sink_follows : position ended.sink ≡ consumer_by_chapter ended.closing.at_end
  pub tallies_are : ended.tallies.items ≡ map (λ s. s.tally) seats

abbrev pub RingsEnd : {S : Type 0} → (S → ℕ) → (S → SinkItem → S → Type 0) → List (Opened S) → List (Ended S) → List (List WorkerSeat) → Type 0
RingsEnd position takes [] [] [] = Unit {0}
RingsEnd position takes (o ∷ os) (e ∷ es) (seats ∷ more) = RingEnds position takes o e seats × RingsEnd position takes os es more
RingsEnd position takes _ _ _ = ⊥

-- The run follows the program's semantics with these calls, whose answers are such as helpers may give, and has this
-- result. A record that was submitted or discarded is the one that was granted, as its ring made it.
pub record IsRun (run : JobRun) : Type 0 where
  pub length_is : TellsLength run.job.program.now run.job.ctx.now run.answer.result
  pub shows : RunMatches reserved_bytes with_record_bytes run.job.program.now run.job.ctx.now run.calls run.answer.result
  pub never_stray : run.answer.result ≢ Err Stray
  pub balanced : OnOk run.answer.result (TraceBalances [] (notes_of run.calls))
  pub may_answer : AllMayAnswer (notes_of run.calls)

-- the sum over the calls of these runs
abbrev pub times_in : (Done → ℕ) → List JobRun → ℕ
times_in what runs = sum_by (λ run. call_total what (notes_of run.calls)) runs

-- the counts of a worker's seats together grew by what the calls of these runs say
pub record HasRisen (runs : List JobRun) (old new : List WorkerSeat) : Type 0 where
  pub made_is : made_in new ≡ made_in old + times_in makes runs
  pub submitted_is : submitted_in new ≡ submitted_in old + times_in submits runs
  pub discarded_is : discarded_in new ≡ discarded_in old + times_in discards runs

-- the refused counts of all seats together
abbrev pub refused_by_all : List (List WorkerSeat) → ℕ
refused_by_all seats = sum_by refused_in seats

-- There are the seats at the end, a row for each ring, and a run of each job, in the order of the jobs. Each ring was
-- closed with its row. Each worker's runs, one after another in the order of the list, led from the initial state of
-- its seats to the final one. Each run follows the semantics with its calls. The answers, the strays and the unlogged
-- failures are those of the runs. Each worker's seats grew by the calls of its own runs. Each null for flags 0 and each
-- answer -EAGAIN is a refusal in a ring's history, or unlogged.
pub record IsReport {S : Type 0} (position : S → ℕ) (takes : S → SinkItem → S → Type 0) (opened : List (Opened S)) (jobs : List Job) (report : JobsReport S) : Type 0 where
  pub seats : List (List WorkerSeat)
  pub runs : List JobRun
  pub jobs_are : map (λ run. run.job) runs ≡ jobs
  pub rings_end : RingsEnd position takes opened report.rings.items seats
  pub worked : (k : ℕ) → k < workers_of opened → RunsInTurn (own_runs k runs) (worker_column k (seat_rows opened)) (worker_column k seats)
  pub runs_match : All IsRun runs
  pub answers_are : report.answers.items ≡ map (λ run. run.answer.result) runs
  pub strays_are : report.strays ≡ count_by is_stray report.answers.items
  pub unlogged_is : report.unlogged ≡ sum_by (λ run. run.answer.unlogged) runs
  pub numbers_rose : (k : ℕ) → k < workers_of opened → HasRisen (own_runs k runs) (worker_column k (seat_rows opened)) (worker_column k seats)
  pub failures_add_up : refused_by_all seats + report.unlogged ≡ refused_by_all (seat_rows opened) + times_in fails runs
