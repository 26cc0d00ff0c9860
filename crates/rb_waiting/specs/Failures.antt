-- Calls that made no record, in a stream that refused none (own).
use Rattle.std.specs.Prelude.{◌≡◌, ℕ, ◌+◌, List}
use Rattle.rb_verifier.specs.Subject.{Subject}
use Rattle.rb_jobs.specs.SeatHelpers.{fails}
use Rattle.rb_workers.specs.Opened.{workers_of}
use Rattle.rb_workers.specs.Reports.{refused_by_all}
use Rattle.rb_workers.specs.SeatRows.{seat_rows}
use Rattle.rb_workers.specs.Sink.{SinkItem}
use Rattle.rb_workers.specs.declared.opened.Opened.{Opened}
use Rattle.rb_stream.specs.Streamed.{IsStreamedAs, of_all, times_in, unlogged_in}
use Rattle.rb_stream.specs.declared.report.StreamReport.{StreamReport}
use Rattle.rb_stream_worker.specs.declared.when_full.WhenFull.{WhenFull}

-- The report is that of runs all of whose failures were counted as unlogged: each null that a reserve returned for
-- flags 0, and each -EAGAIN of an output. By `SeatIsRefused` such a call found the chapter full, or needed memory that
-- was refused, or came when all four hands of its seat were out. The seats of newly opened rings begin with no
-- refusals; earlier ones are counted here.
pub record FailsUnlogged {S I : Type 0} (full : WhenFull) (position : S → ℕ) (takes : S → SinkItem → S → Type 0) (gives : I → List (List ℕ) → I → Type 0) (opened : List (Opened S)) (programs : List Subject) (bound : ℕ) (source later : I) (report : StreamReport S) : Type 0 where
  pub streamed : IsStreamedAs full position takes gives opened programs bound source later report
  pub all_unlogged : refused_by_all (seat_rows opened) + times_in fails (of_all (workers_of opened) streamed.runs) ≡ unlogged_in (of_all (workers_of opened) streamed.runs)
