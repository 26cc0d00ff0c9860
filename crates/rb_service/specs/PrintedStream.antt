-- What `stream` did if it returned Ok: it ran a stream with its options over its input, and appended the counters of the
-- stream's report (own). Of the output of a ring only the position is known here; these definitions do not say what it
-- received.
use Rattle.std.specs.Prelude.{◌≡◌, ℕ, ◌+◌, ◌-◌, ◌<◌, ◌^◌, min, All, List, ◌++◌, length, map, Option, None}
use Rattle.std.specs.List.{AllZip}
use Rattle.rb_verifier.specs.Subject.{Subject}
use Rattle.rb_history.specs.RingModel.{IsStartPosition}
use Rattle.rb_workers.specs.Rest.{LeavesNothing}
use Rattle.rb_workers.specs.Sink.{SinkItem}
use Rattle.rb_loader.specs.Acceptance.{IsAccepted}
use Rattle.rb_source.specs.Form.{form_len}
use Rattle.rb_source.specs.Stream.{FramedInput, Gives, IsFresh, IsOver}
use Rattle.rb_source.specs.declared.counts.ContextCounts.{ContextCounts}
use Rattle.rb_stream.specs.declared.report.StreamEnd.TheVariants.{Over}
use Rattle.rb_stream.specs.declared.report.StreamReport.{StreamReport}
use Rattle.rb_waiting.specs.NoneRefused.{RefusesNoRecord, StaysLow}
use Rattle.rb_service.specs.Counters.{contexts_read, counters}
use Rattle.rb_service.specs.Service.{Serves}
use Rattle.rb_service.specs.declared.options.StreamOptions.{StreamOptions}
use Rattle.rb_service.specs.declared.rings.RingPlan.{RingPlan}
use Rattle.rb_service.specs.declared.service.Full.TheVariants.{Wait}
use Rattle.rb_service.specs.declared.service.ServiceRequest.{ServiceRequest}

-- ---- what the options say

-- the names of the rings, in their order
abbrev pub names_of_rings : StreamOptions → List (List ℕ)
names_of_rings options = map (λ r. r.name.now) options.rings.items

-- the sizes of the rings, in their order
abbrev pub sizes_of_rings : StreamOptions → List ℕ
sizes_of_rings options = map (λ r. r.size) options.rings.items

-- how the programs are run
abbrev pub request_of : StreamOptions → ServiceRequest
request_of options = record { workers = options.workers; late = options.late; full = options.full; results = options.results }

-- There are as many programs as files. Each was accepted from a text, for contexts of this length and for this number
-- of rings. The texts are those of the files, which no contract knows.
pub record AreAccepted (files ctx_len rings : ℕ) (programs : List Subject) : Type 0 where
  pub texts : List (List ℕ)
  pub as_many : length texts ≡ files
  pub accepted : AllZip (λ text program. IsAccepted text ctx_len rings program) texts programs

-- the programs were accepted for the contexts and the rings of these options; a program may use at most 16 rings
abbrev pub AreAcceptedFor : StreamOptions → List Subject → Type 0
AreAcceptedFor options programs = AreAccepted (length options.programs.items) (form_len options.form) (min (length options.rings.items) 16) programs

-- ---- the run

-- an output, of which only the position is known, may receive any item
abbrev pub TakesAny : ℕ → SinkItem → ℕ → Type 0
TakesAny old item new = Unit {0}

-- A stream was run with these options over an input with these bytes, if they are known. Rings of the options' sizes
-- were opened, each at a position at which a ring may start. The programs were run over them on each context that a new
-- source over the input gave, until the input was over: this is the report, and these are the counts of the source. If
-- the bytes are known, the contexts are what the framing and the form make of them (`AgreeOnContexts`).
pub record ReportsStream (options : StreamOptions) (input : Option (List ℕ)) (report : StreamReport ℕ) (counts : ContextCounts) : Type 0 where
  pub programs : List Subject
  pub plans : List (RingPlan ℕ)
  pub source : FramedInput (Option (List ℕ))
  pub later : FramedInput (Option (List ℕ))
  pub accepted : AreAcceptedFor options programs
  pub sizes_are : map (λ p. p.size) plans ≡ sizes_of_rings options
  pub begins : All (λ p. IsStartPosition p.sink) plans
  pub fresh : IsFresh input options.framing options.form source
  pub served : Serves (λ position. position) TakesAny (Gives (λ bytes. bytes)) plans programs (request_of options) source later report
  pub over : IsOver (λ bytes. bytes) later
  pub counts_are : counts ≡ later.counts

-- ---- the counters

-- The counters of this report, with these counts of its source, were appended. There are results of each program and
-- counts of each ring, by its name. The contexts that were read are those that were run, dropped or skipped, as long as
-- no count is the greatest number. No run ended with a stray record, no record waits in a ring, and the input is over.
-- If workers waited for room, no record was refused.
pub record PrintsReport (options : StreamOptions) (report : StreamReport ℕ) (counts : ContextCounts) (old new : List ℕ) : Type 0 where
  pub printed : new ≡ old ++ counters report counts (names_of_rings options)
  pub programs_are : length report.results.items ≡ length options.programs.items
  pub rings_are : length report.rings.items ≡ length options.rings.items
  pub adds_up : contexts_read report.contexts counts < 2 ^ 64 - 1 → contexts_read report.contexts counts ≡ report.ran + report.dropped + counts.skipped
  pub no_strays : report.strays ≡ 0
  pub nothing_left : All LeavesNothing report.rings.items
  pub none_refused : options.full ≡ Wait → All StaysLow report.rings.items → All RefusesNoRecord report.rings.items
  pub over : report.end ≡ Over

-- a stream was run with these options over an input with these bytes, and the counters of its report were appended
pub record PrintsStreamOver (options : StreamOptions) (input : Option (List ℕ)) (old new : List ℕ) : Type 0 where
  pub report : StreamReport ℕ
  pub counts : ContextCounts
  pub ran : ReportsStream options input report counts
  pub printed : PrintsReport options report counts old new

-- the same over the input, or over the file that the options name, whose bytes no contract knows
pub record PrintsStream (options : StreamOptions) (input : Option (List ℕ)) (old new : List ℕ) : Type 0 where
  pub read : Option (List ℕ)
  pub reads_input : options.from ≡ None → read ≡ input
  pub streamed : PrintsStreamOver options read old new
