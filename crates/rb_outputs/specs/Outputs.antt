-- What the outputs of rings receive (own).
use Rattle.std.specs.Prelude.{◌≡◌, ◌≢◌, ℕ, ◌+◌, ◌&&◌, Bool, false, true, not, if◌then◌else◌, List, [], ◌∷◌, ◌++◌, Option, None, Some}
use Rattle.rb_history.specs.TapeBytes.{Item}
use Rattle.rb_segments.specs.Segments.{Segment}
use Rattle.rb_segments.specs.SegmentTape.{HasWritten, SegmentTape}
use Rattle.rb_segments.specs.declared.fault.SegmentFault.{SegmentFault}
use Rattle.rb_workers.specs.Sink.{SinkItem, sink_span}
use Rattle.rb_run_commands.specs.TapedRun.{sink_tape_items, tape_position, tape_takes}
use Rattle.rb_outputs.specs.Lines.{lines_position, lines_take}
use Rattle.rb_outputs.specs.declared.outputs.OutputEnd.{OutputEnd}
use Rattle.rb_outputs.specs.declared.outputs.OutputEnd.TheVariants.{Whole, Segments as EndOfSegments, Failed}
use Rattle.rb_outputs.specs.declared.outputs.RingOutput.{RingOutput}
use Rattle.rb_outputs.specs.declared.outputs.RingOutput.TheVariants.{Stream, File, Segments, Nowhere}
use Rattle.rb_outputs.specs.declared.stream_output.StreamOutput.{StreamOutput}
use Rattle.rb_outputs.specs.declared.stream_output.StreamOutput.TheVariants.{Tape, Lines}

-- ---- on one writer, and in segments

abbrev pub stream_position : {W : Type 0} → StreamOutput W → ℕ
stream_position (Tape tape) = tape_position tape
stream_position (Lines lines) = lines_position lines

abbrev pub stream_writer : {W : Type 0} → StreamOutput W → W
stream_writer (Tape tape) = tape.writer
stream_writer (Lines lines) = lines.writer

-- whether the output ended with a record that was not written completely
abbrev pub stream_failed : {W : Type 0} → StreamOutput W → Bool
stream_failed (Tape tape) = tape.failed
stream_failed (Lines lines) = lines.failed

-- Taking one item turns the one output into the other: a tape continues with the item's record, and lines with the
-- record's line. `contents` are the bytes that a writer has, and `writes_out` is the effect of a flush.
abbrev pub stream_takes : {W : Type 0} → (W → Option (List ℕ)) → (W → Bool → W → Type 0) → StreamOutput W → SinkItem → StreamOutput W → Type 0
stream_takes contents writes_out (Tape old) item (Tape new) = tape_takes contents writes_out old item new
stream_takes contents writes_out (Lines old) item (Lines new) = lines_take contents writes_out old item new
stream_takes contents writes_out _ item _ = ⊥

-- The writer was called to flush. The output is reported as whole if that succeeded and no record was left out before,
-- and otherwise as failed.
abbrev pub EndsFlushed : {W : Type 0} → (W → Bool → W → Type 0) → W → Bool → OutputEnd → Type 0
EndsFlushed {W} writes_out writer failed end = (flushed : Bool) × (left : W) × writes_out writer flushed left × (end ≡ (if flushed && not failed then Whole else Failed))

-- whether there is a fault
abbrev pub has_fault : Option SegmentFault → Bool
has_fault None = false
has_fault (Some fault) = true

-- A tape in segments is reported as ended only if no fault ended it before, and then with its position.
abbrev pub EndsSegments : {S F : Type 0} → SegmentTape S F → OutputEnd → Type 0
EndsSegments tape end = end ≢ Failed → (has_fault tape.fault ≡ false) × (end ≡ EndOfSegments tape.position)

-- ---- of a ring

abbrev pub output_position : {A B S F : Type 0} → RingOutput A B S F → ℕ
output_position (Stream output) = stream_position output
output_position (File output) = stream_position output
output_position (Segments tape) = tape.position
output_position (Nowhere sink) = sink.position

-- these records come after those that the segments hold: they are written, or counted as unwritten, and some of the
-- oldest segments may be deleted
abbrev pub ContinuesWith : {S F : Type 0} → (S → Option (List Segment)) → (F → Option (List ℕ)) → SegmentTape S F → List Item → SegmentTape S F → Type 0
ContinuesWith segments contents old items new = (start : ℕ) (deleted : List Segment) (before : List Item) →
    HasWritten segments contents start deleted before old → (gone : List Segment) × HasWritten segments contents start (deleted ++ gone) (before ++ items) new

-- Taking one item turns the one output into the other: it continues with the item's record, and one that goes nowhere
-- skips it. `contents` are the bytes that a writer has, `writes_out` is the effect of a flush, and `segments` are the
-- closed segments that a store has.
abbrev pub output_takes : {A B S F : Type 0} → (A → Option (List ℕ)) → (A → Bool → A → Type 0) → (B → Option (List ℕ)) → (B → Bool → B → Type 0) → (S → Option (List Segment)) → (F → Option (List ℕ)) → RingOutput A B S F → SinkItem → RingOutput A B S F → Type 0
output_takes contents writes_out file_contents file_writes_out segments segment_contents (Stream old) item (Stream new) = stream_takes contents writes_out old item new
output_takes contents writes_out file_contents file_writes_out segments segment_contents (File old) item (File new) = stream_takes file_contents file_writes_out old item new
output_takes contents writes_out file_contents file_writes_out segments segment_contents (Segments old) item (Segments new) = ContinuesWith segments segment_contents old (sink_tape_items (item ∷ [])) new
output_takes contents writes_out file_contents file_writes_out segments segment_contents (Nowhere old) item (Nowhere new) = new.position ≡ old.position + sink_span item
output_takes contents writes_out file_contents file_writes_out segments segment_contents _ item _ = ⊥

-- whether the output ended with a record that was not written completely
abbrev pub has_failed : {A B S F : Type 0} → RingOutput A B S F → Bool
has_failed (Stream output) = stream_failed output
has_failed (File output) = stream_failed output
has_failed (Segments tape) = has_fault tape.fault
has_failed (Nowhere sink) = false

-- if the output ended as a whole tape in segments, it is reported to end at this position
abbrev pub EndsAt : ℕ → OutputEnd → Type 0
EndsAt position Whole = Unit {0}
EndsAt position (EndOfSegments end) = end ≡ position
EndsAt position Failed = Unit {0}

-- How the output ended is reported as it was; an output that goes nowhere is whole.
abbrev pub IsEndOf : {A B S F : Type 0} → (A → Bool → A → Type 0) → (B → Bool → B → Type 0) → RingOutput A B S F → OutputEnd → Type 0
IsEndOf writes_out file_writes_out (Stream output) end = EndsFlushed writes_out (stream_writer output) (stream_failed output) end
IsEndOf writes_out file_writes_out (File output) end = EndsFlushed file_writes_out (stream_writer output) (stream_failed output) end
IsEndOf writes_out file_writes_out (Segments tape) end = EndsSegments tape end
IsEndOf writes_out file_writes_out (Nowhere sink) end = end ≡ Whole
