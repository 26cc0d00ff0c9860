-- What running jobs are refused if the consumers of their rings keep up (own).
use Rattle.std.specs.Prelude.{◌≡◌, ℕ, ◌+◌, ◌*◌, ◌<◌, ◌≤◌, ◌^◌, All, List, [], ◌∷◌, ◌++◌, length, slice_get, Some}
use Rattle.std.specs.List.{AllZip, flat_map}
use Rattle.rb_history.specs.declared.entries.Entry.{Entry}
use Rattle.rb_history.specs.History.{producer_of}
use Rattle.rb_chapter_ring.specs.Chapters.{Chapter}
use Rattle.rb_chapter_ring.specs.WholeHistory.{IsBound}
use Rattle.rb_admission.specs.Lateness.{IsLateByAtMost}
use Rattle.rb_cost.specs.declared.cost.Cost.{Cost}
use Rattle.rb_cost.specs.Cost.{IsCost}
use Rattle.rb_cost.specs.Runs.{ring_cost_at}
use Rattle.rb_run_cost.specs.CallCosts.{IsVerified}
use Rattle.rb_ledger.specs.Seats.{WorkerSeat}
use Rattle.rb_interp.specs.declared.completed_call.Done.{Done}
use Rattle.rb_interp.specs.AnsweredCalls.{notes_of}
use Rattle.rb_jobs.specs.SeatHelpers.{makes, fails}
use Rattle.rb_jobs.specs.declared.job.Job.{Job}
use Rattle.rb_run_cost.specs.JobRequests.{AreLeft, requests_of}
use Rattle.rb_workers.specs.declared.opened.Opened.{Opened}
use Rattle.rb_workers.specs.declared.opened.Ended.{Ended}
use Rattle.rb_workers.specs.declared.opened.JobsReport.{JobsReport}
use Rattle.rb_workers.specs.JobRuns.{JobRun, RunsInTurn, own_runs}
use Rattle.rb_workers.specs.Reports.{IsReport, refused_by_all, times_in}
use Rattle.rb_workers.specs.SeatRows.{seat_rows}
use Rattle.rb_workers.specs.Sink.{SinkItem}

-- The runs of a worker cut the history of a ring into parts: one before its first run, in which it requests nothing,
-- and one for each run in order. The worker's requests in a run's part, granted and refused, are those that the calls
-- of that run left there (`calls_leave_their_requests`). So a record belongs to the run in whose part the worker
-- reserved it.
pub record RunsCut (ring w : ℕ) (runs : List JobRun) (h idle : List Entry) (parts : List (List Entry)) : Type 0 where
  pub whole : h ≡ idle ++ flat_map (λ entries. entries) parts
  pub asks_nothing : requests_of w idle ≡ []
  pub each : AllZip (λ run entries. AreLeft ring (notes_of run.calls) (requests_of w entries)) runs parts

-- There is such a cut of every history in which the worker's requests are those that its seat has seen after the runs,
-- if it had seen none of its own before them.
abbrev pub RunsCutHistories : Type 0
RunsCutHistories =
    (ring w : ℕ) (runs : List JobRun) (old new : List WorkerSeat) (before : WorkerSeat) → RunsInTurn runs old new → slice_get old ring ≡ Some before → before.worker ≡ w
    → requests_of w before.seen.history ≡ []
    → (after : WorkerSeat) × (slice_get new ring ≡ Some after)
    × ((h : List Entry) → requests_of w h ≡ requests_of w after.seen.history → (idle : List Entry) × (parts : List (List Entry)) × RunsCut ring w runs h idle parts)

-- The consumer of a closed ring kept up with the runs of its workers: it was never late by more than `behind` of them,
-- by the history to which the chapters of the ring were bound. The ring is larger than what one run of each of its
-- workers and `behind` more request together, at most `most` bytes each. Its positions stay below 2^62 by as much.
pub record RingKeepsUp {S : Type 0} (ring : ℕ) (runs : List JobRun) (most behind : ℕ) (ended : Ended S) : Type 0 where
  pub chapters : List Chapter
  pub history : List Entry
  pub bound : IsBound chapters ended.closing.at_end.chapter history
  pub idle : ℕ → List Entry
  pub parts : ℕ → List (List Entry)
  pub cut : (w : ℕ) → w < ended.closing.at_end.chapter.opening.setup.workers → RunsCut ring w (own_runs w runs) history (idle w) (parts w)
  pub late : IsLateByAtMost ended.closing.at_end.chapter.opening.setup history (λ w. idle w ∷ parts w) behind
  pub larger : (behind + ended.closing.at_end.chapter.opening.setup.workers) * most < ended.closing.at_end.chapter.opening.setup.size
  pub low : producer_of ended.closing.at_end.chapter.opening.setup.start history + most ≤ 2 ^ 62

-- the same for each ring, from a ring's number on
abbrev pub RingsKeepUp : {S : Type 0} → ℕ → List JobRun → (most behind : ℕ) → List (Ended S) → Type 0
RingsKeepUp ring runs most behind [] = Unit {0}
RingsKeepUp ring runs most behind (ended ∷ more) = RingKeepsUp ring runs most behind ended × RingsKeepUp (ring + 1) runs most behind more

-- The job's program was verified for at least this many rings, has this cost, and requests at most `most` bytes from
-- each of these rings.
pub record CostsAtMost (rings most : ℕ) (job : Job) (cost : Cost) : Type 0 where
  pub verified : IsVerified job.program.now
  pub is : IsCost job.program.now cost
  pub knows : rings ≤ job.program.now.rings
  pub within : (ring : ℕ) → ring < rings → (ring_cost_at cost ring).bytes ≤ most

-- by the tallies of a ring, none of its workers was refused a record
abbrev pub RefusesNone : {S : Type 0} → Ended S → Type 0
RefusesNone ended = All (λ t. t.refused ≡ 0) ended.tallies.items

-- a call requested a record: it was made, or it was not
abbrev pub asks : Done → ℕ
asks call = makes call + fails call

-- No ring refused any worker a record. What the calls of the runs requested was made, or is unlogged. The seats of
-- newly opened rings begin with no refusals; earlier ones are counted here.
pub record NoneRefused {S : Type 0} (opened : List (Opened S)) (report : JobsReport S) (runs : List JobRun) : Type 0 where
  pub refused : All RefusesNone report.rings.items
  pub made : times_in asks runs + refused_by_all (seat_rows opened) ≡ times_in makes runs + report.unlogged

-- this holds for every report of a run whose rings all kept up, where `most` is the greatest cost of a job's program at
-- a ring
abbrev pub NoJobIsRefused : {S : Type 0} → (S → ℕ) → (S → SinkItem → S → Type 0) → Type 0
NoJobIsRefused {S} position takes =
    (opened : List (Opened S)) (jobs : List Job) (report : JobsReport S) (is : IsReport position takes opened jobs report) (costs : Job → Cost) (most behind : ℕ)
    → All (λ job. CostsAtMost (length report.rings.items) most job (costs job)) jobs → RingsKeepUp 0 is.runs most behind report.rings.items
    → NoneRefused opened report is.runs
