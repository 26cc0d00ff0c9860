-- What `run` does with the text of a program: its workers run it as jobs over a newly opened ring, and it prints the
-- report (own).
use Rattle.std.specs.Prelude.{◌≡◌, ◌+◌, ℕ, false, All, List, [], ◌∷◌, map, Option}
use Rattle.std.specs.Io.KnownBytes.{Appends}
use Rattle.rb_history.specs.RingModel.{IsRingSize, IsStartPosition, IsWorkerCount}
use Rattle.rb_chapter_ring.specs.Chapters.{empty_chapter}
use Rattle.rb_ledger.specs.ChapterSeats.{fresh_chapter_consumer}
use Rattle.rb_consumer.specs.Keepers.{KeeperValue}
use Rattle.rb_jobs.specs.Jobs.{task_of}
use Rattle.rb_jobs.specs.declared.job.Job.{Job}
use Rattle.rb_ledger.specs.Roles.{Book}
use Rattle.rb_ledger.specs.Seats.{fresh_book, fresh_seats}
use Rattle.rb_verifier.specs.Subject.{Subject}
use Rattle.rb_workers.specs.ChapterSizes.{margin_of, room_of}
use Rattle.rb_workers.specs.Reports.{IsReport}
use Rattle.rb_workers.specs.Settled.{EndsSettled}
use Rattle.rb_workers.specs.Sink.{SinkItem, sink_span}
use Rattle.rb_workers.specs.declared.opened.Opened.{Opened}
use Rattle.rb_workers.specs.declared.opened.JobsReport.{JobsReport}
use Rattle.rb_loader.specs.Acceptance.{IsAccepted, IsRightFault}
use Rattle.rb_run_commands.specs.ReportLines.{report_lines, unlogged_text}
use Rattle.rb_run_commands.specs.WorkerJobs.{tasks_of_workers}
use Rattle.rb_run_commands.specs.declared.jobs_fault.JobsFault.{JobsFault}
use Rattle.rb_run_commands.specs.declared.jobs_fault.JobsFault.TheVariants.{Program, Size, Start, Workers}
use Rattle.rb_loader.specs.declared.program.ProgramFault.TheVariants.{Memory}
use Rattle.rb_run_commands.specs.declared.jobs_request.JobsRequest.{JobsRequest}
use Rattle.rb_workers.specs.declared.null_sink.NullSink.{NullSink}

-- ---- the run

-- a run that can begin: its program, and what is requested of it
pub record RunPlan : Type 0 where
  pub program : Subject
  pub request : JobsRequest

-- the position of a sink that discards its records
abbrev pub null_position : NullSink → ℕ
null_position sink = sink.position

-- it skips each of them
abbrev pub null_takes : NullSink → SinkItem → NullSink → Type 0
null_takes old item new = new.position ≡ old.position + sink_span item

-- it starts where the ring does
abbrev pub first_null : JobsRequest → NullSink
first_null request = record { position = request.start }

-- the initial history of the requested ring
abbrev pub first_book : JobsRequest → Book
first_book request = fresh_book request.size request.start request.workers

-- the keeper of its chapters before any was handed out, with the room and the margin for the ring's size
abbrev pub first_keeper : JobsRequest → KeeperValue
first_keeper request = record { chapter = empty_chapter (room_of request.size) request.workers; margin = margin_of request.size; is_lent = false }

-- the ring was just opened, with the requested size, start and workers, chapters of that room, and this sink
pub record IsJustOpened {S : Type 0} (sink : S) (request : JobsRequest) (o : Opened S) : Type 0 where
  pub seats_are : o.seats.items ≡ fresh_seats 0 o.ring.ring (room_of request.size) (first_book request) 0 request.workers
  pub consumer_is : o.consumer ≡ fresh_chapter_consumer 0 o.ring.ring (room_of request.size) (first_book request)
  pub keeper_is : o.keeper ≡ first_keeper request
  pub sink_is : o.sink ≡ sink

-- each worker ran the program the requested number of times, over one ring that was just opened with this sink, and
-- this is the report on these jobs and this ring; no job had a record handed back, and the ring ends without busy
-- records
pub record RunsWorkers {S : Type 0} (position : S → ℕ) (takes : S → SinkItem → S → Type 0) (sink : S) (subject : Subject) (request : JobsRequest) (report : JobsReport S) : Type 0 where
  pub opened : Opened S
  pub jobs : List Job
  pub just_opened : IsJustOpened sink request opened
  pub tasks_are : map task_of jobs ≡ tasks_of_workers subject request.workers request.jobs
  pub reported : IsReport position takes (opened ∷ []) jobs report
  pub no_strays : report.strays ≡ 0
  pub settled : All EndsSettled report.rings.items

-- ---- what is printed

-- The program was run with this sink, and exactly the report was printed. Exactly the number of reservations and outputs
-- that are neither granted nor refused in the ring's history was reported besides.
pub record PrintsReport {S : Type 0} (position : S → ℕ) (takes : S → SinkItem → S → Type 0) (sink : S) (subject : Subject) (request : JobsRequest) (before after told_before told_after : Option (List ℕ)) : Type 0 where
  pub report : JobsReport S
  pub ran : RunsWorkers position takes sink subject request report
  pub printed : Appends before after (report_lines request.form report)
  pub told : Appends told_before told_after (unlogged_text report.unlogged)

-- ---- what is refused

-- the first of the ring's numbers that is out of bounds, otherwise memory
abbrev pub IsRightRingFault : JobsRequest → JobsFault → Type 0
IsRightRingFault request (Program fault) = fault ≡ Memory
IsRightRingFault request Size = ¬ IsRingSize request.size
IsRightRingFault request Start = IsRingSize request.size × ¬ IsStartPosition request.start
IsRightRingFault request Workers = IsRingSize request.size × IsStartPosition request.start × ¬ IsWorkerCount request.workers

-- the first fault of the input as a program's text, otherwise that of the ring
abbrev pub IsRightJobsFault : List ℕ → JobsRequest → JobsFault → Type 0
IsRightJobsFault input request (Program fault) = IsRightFault input 16 1 fault
IsRightJobsFault input request fault = ((subject : Subject) × IsAccepted input 16 1 subject) × IsRightRingFault request fault
