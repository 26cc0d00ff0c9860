-- What an output of lines holds (own; rb_tape_commands defines the lines).
use Rattle.std.specs.Prelude.{◌≡◌, ◌≢◌, ℕ, Bool, true, false, not, List, [], ◌∷◌, ◌++◌, Option}
use Rattle.std.specs.Io.KnownBytes.{Appends}
use Rattle.rb_history.specs.TapeBytes.{Item}
use Rattle.rb_json.specs.declared.form.LineForm.TheVariants.{Json}
use Rattle.rb_tape_commands.specs.TapeText.{tape_lines}
use Rattle.rb_workers.specs.Sink.{SinkItem}
use Rattle.rb_workers.specs.Sink.SinkItem.{Record, Chapter, CaughtUp}
use Rattle.rb_run_commands.specs.TapedRun.{sink_tape_items}

-- lines that a sink writes: the underlying writer, the position of the next record, whether the lines ended with one that
-- was not written whole, and whether the writer failed to flush before the end
pub record SinkLines (W : Type 0) : Type 0 where
  pub writer : W
  pub position : ℕ
  pub failed : Bool
  pub stalled : Bool

abbrev pub lines_position : {W : Type 0} → SinkLines W → ℕ
lines_position sink = sink.position

-- For these records, a prefix of their lines was written, which are those that `tape --json` prints: all of them if the
-- lines have not ended, and not all of them if they ended meanwhile. After their end nothing is written. `contents` are a
-- writer's bytes, if they are known.
pub record WritesLines {W : Type 0} (contents : W → Option (List ℕ)) (old : SinkLines W) (items : List Item) (new : SinkLines W) : Type 0 where
  pub out : List ℕ
  pub missing : List ℕ
  pub wrote : Appends (contents old.writer) (contents new.writer) out
  pub nothing : old.failed ≡ true → (out ≡ []) × (new.failed ≡ true)
  pub beginning : old.failed ≡ false → out ++ missing ≡ tape_lines Json items
  pub all_out : new.failed ≡ false → missing ≡ []
  pub not_all_out : old.failed ≡ false → new.failed ≡ true → missing ≢ []

-- The writer was called to flush, unless the lines had ended or a flush had failed before. `writes_out` is the effect of
-- such a call on a writer.
abbrev pub FlushesLines : {W : Type 0} → (W → Bool → W → Type 0) → SinkLines W → SinkLines W → Type 0
FlushesLines writes_out old new = old.failed ≡ false → old.stalled ≡ false → writes_out old.writer (not new.stalled) new.writer

-- the lines are flushed when the consumer has caught up and at each chapter; a record may wait in a buffer
abbrev pub FlushesLinesFor : {W : Type 0} → (W → Bool → W → Type 0) → SinkLines W → SinkItem → SinkLines W → Type 0
FlushesLinesFor writes_out old (Record taken) new = Unit {0}
FlushesLinesFor writes_out old (Chapter chapter) new = FlushesLines writes_out old new
FlushesLinesFor writes_out old CaughtUp new = FlushesLines writes_out old new

-- the effect of one item on such a sink; a chapter adds no line
abbrev pub lines_take : {W : Type 0} → (W → Option (List ℕ)) → (W → Bool → W → Type 0) → SinkLines W → SinkItem → SinkLines W → Type 0
lines_take contents writes_out old item new = WritesLines contents old (sink_tape_items (item ∷ [])) new × FlushesLinesFor writes_out old item new
