-- What `run --tape` writes: the tape of everything that the ring's consumer took, up to the first write that fails
-- (own; `rb_history` defines the bytes of a tape).
use Rattle.std.specs.Prelude.{◌≡◌, ◌≢◌, ◌⊎◌, ℕ, Bool, true, false, not, All, IfSome, List, [], ◌∷◌, ◌++◌, Option}
use Rattle.std.specs.Io.KnownBytes.{Appends, append_known}
use Rattle.rb_history.specs.TapeBytes.{Item, tape}
use Rattle.rb_ledger.specs.Seats.{WorkerSeat}
use Rattle.rb_ledger.specs.ChapterClosing.{IsClosedByChapters}
use Rattle.rb_ledger.specs.ChapterSeats.{ChapterConsumerSeat}
use Rattle.rb_verifier.specs.Subject.{Subject}
use Rattle.rb_workers.specs.Reports.{ring_at_end}
use Rattle.rb_tape.specs.Items.{tape_items}
use Rattle.rb_workers.specs.Sink.{SinkItem, IsRecordIn, positions_among, records_among, takes_in}
use Rattle.rb_workers.specs.Sink.SinkItem.{Record, Chapter, CaughtUp}
use Rattle.rb_workers.specs.declared.opened.Ended.{Ended}
use Rattle.rb_loader.specs.Acceptance.{IsAccepted}
use Rattle.rb_run_commands.specs.RunCommand.{PrintsReport, first_null, null_position, null_takes}
use Rattle.rb_io.specs.Gathered.{Gathered, HandsOn}
use Rattle.rb_run_commands.specs.declared.jobs_request.JobsRequest.{JobsRequest}

-- ---- the sink

-- a tape that a sink writes: the underlying writer, the ring's size, the position of the next record, whether the tape
-- ended with a record that was not written whole, and whether the writer failed to flush before the end
pub record SinkTape (W : Type 0) : Type 0 where
  pub writer : W
  pub size : ℕ
  pub position : ℕ
  pub failed : Bool
  pub stalled : Bool

-- before the first record
abbrev pub first_tape : {W : Type 0} → W → JobsRequest → SinkTape W
first_tape writer request = record { writer = writer; size = request.size; position = request.start; failed = false; stalled = false }

abbrev pub tape_position : {W : Type 0} → SinkTape W → ℕ
tape_position sink = sink.position

-- For these records, a prefix of their tape was written: all of it if the tape has not failed, and not all of it if it
-- failed meanwhile. After a failure nothing is written. `contents` are a writer's bytes, if they are known.
pub record WritesOn {W : Type 0} (contents : W → Option (List ℕ)) (old : SinkTape W) (items : List Item) (new : SinkTape W) : Type 0 where
  pub out : List ℕ
  pub missing : List ℕ
  pub wrote : Appends (contents old.writer) (contents new.writer) out
  pub size_same : new.size ≡ old.size
  pub nothing : old.failed ≡ true → (out ≡ []) × (new.failed ≡ true)
  pub beginning : old.failed ≡ false → out ++ missing ≡ tape old.size items
  pub all_out : new.failed ≡ false → missing ≡ []
  pub not_all_out : old.failed ≡ false → new.failed ≡ true → missing ≢ []

-- the records among the items, as records of a tape
abbrev pub sink_tape_items : List SinkItem → List Item
sink_tape_items items = tape_items (records_among items)

-- The writer was called to flush, unless the tape had ended or a flush had failed before. `writes_out` is the effect of
-- such a call on a writer.
abbrev pub WritesOut : {W : Type 0} → (W → Bool → W → Type 0) → SinkTape W → SinkTape W → Type 0
WritesOut writes_out old new = old.failed ≡ false → old.stalled ≡ false → writes_out old.writer (not new.stalled) new.writer

-- the tape is flushed when the consumer has caught up and at each chapter; a record may wait in a buffer
abbrev pub WritesOutFor : {W : Type 0} → (W → Bool → W → Type 0) → SinkTape W → SinkItem → SinkTape W → Type 0
WritesOutFor writes_out old (Record taken) new = Unit {0}
WritesOutFor writes_out old (Chapter chapter) new = WritesOut writes_out old new
WritesOutFor writes_out old CaughtUp new = WritesOut writes_out old new

-- the effect of one item on such a sink; a chapter adds nothing to the tape
abbrev pub tape_takes : {W : Type 0} → (W → Option (List ℕ)) → (W → Bool → W → Type 0) → SinkTape W → SinkItem → SinkTape W → Type 0
tape_takes contents writes_out old item new = WritesOn contents old (sink_tape_items (item ∷ [])) new × WritesOutFor writes_out old item new

-- ---- the run

-- A prefix of the tape of everything that the closed ring's whole history took was written, from the first record on
-- and in order. Finally the writer was called to flush. The tape is reported as whole exactly if all of it was written
-- and that call succeeded. The records are the history's, with the bytes that the consumer got, which are those that
-- the seats sent. `writes_out` is the effect of such a call on a writer.
pub record TapesRing {W : Type 0} (contents : W → Option (List ℕ)) (writes_out : W → Bool → W → Type 0) (size : ℕ) (whole : Bool) (writer left : W) (ended : Ended (SinkTape W)) : Type 0 where
  pub seats : List WorkerSeat
  pub consumer : ChapterConsumerSeat
  pub items : List SinkItem
  pub out : List ℕ
  pub missing : List ℕ
  pub handed_out : Bool
  pub closed : IsClosedByChapters ended.closing.at_end seats consumer
  pub taken_are : takes_in (ring_at_end consumer ended).history ≡ positions_among items
  pub records_are : All (IsRecordIn (ring_at_end consumer ended).history consumer.got) items
  pub wrote : Appends (contents writer) (contents left) out
  pub beginning : out ++ missing ≡ tape size (sink_tape_items items)
  pub called : writes_out ended.sink.writer handed_out left
  pub all_out : whole ≡ true → (missing ≡ []) × (handed_out ≡ true)
  pub not_all_out : whole ≡ false → (missing ≢ []) ⊎ (handed_out ≡ false)

-- the program was run with such a sink, its report was printed, and what the ring's consumer took was written as a tape
pub record TapesRun {W : Type 0} (contents : W → Option (List ℕ)) (writes_out : W → Bool → W → Type 0) (writer : W) (subject : Subject) (request : JobsRequest) (before after told_before told_after : Option (List ℕ)) (whole : Bool) (left : W) : Type 0 where
  pub printed : PrintsReport tape_position (tape_takes contents writes_out) (first_tape writer request) subject request before after told_before told_after
  pub taped : All (TapesRing contents writes_out request.size whole writer left) printed.report.rings.items

-- the program was run in this way; all of its tape went through a buffer, in which nothing is left, to a writer whose
-- bytes are unknown
pub record TapesWhole (F : Type 0) (contents : F → Option (List ℕ)) (subject : Subject) (request : JobsRequest) (before after told_before told_after : Option (List ℕ)) : Type 0 where
  pub writer : Gathered F
  pub left : Gathered F
  pub taped : TapesRun (λ b. append_known (contents b.writer) b.waiting) (HandsOn contents) writer subject request before after told_before told_after true left
  pub handed_on : left.waiting ≡ []

-- ---- the command

-- the program was run, and its report was printed: over a sink that drops the records, or, if a tape is requested, with
-- one
abbrev pub RunsProgram : (F : Type 0) → (F → Option (List ℕ)) → Bool → Subject → JobsRequest → Option (List ℕ) → Option (List ℕ) → Option (List ℕ) → Option (List ℕ) → Type 0
RunsProgram F contents false subject request before after told_before told_after = PrintsReport null_position null_takes (first_null request) subject request before after told_before told_after
RunsProgram F contents true subject request before after told_before told_after = TapesWhole F contents subject request before after told_before told_after

-- a program was run for contexts of 16 bytes and one ring: the input's program, if the input is known
pub record PrintsRun (F : Type 0) (contents : F → Option (List ℕ)) (is_taped : Bool) (input : Option (List ℕ)) (request : JobsRequest) (before after told_before told_after : Option (List ℕ)) : Type 0 where
  pub subject : Subject
  pub accepted : IfSome input (λ text. IsAccepted text 16 1 subject)
  pub ran : RunsProgram F contents is_taped subject request before after told_before told_after
