-- What an output of lines, on a stream or in a file, was given.
use Rattle.std.proofs.Common.{ℕ, Bool, List, [], ◌∷◌, Option, refl}
use Rattle.rb_segments.specs.Segments.{Segment}
use Rattle.rb_workers.specs.Sink.{SinkItem, TakesAll}
use Rattle.rb_run_commands.specs.TapedRun.{sink_tape_items}
use Rattle.rb_outputs.specs.Lines.{SinkLines}
use Rattle.rb_outputs.specs.Outputs.{output_takes}
use Rattle.rb_outputs.specs.declared.outputs.RingOutput.{RingOutput}
use Rattle.rb_outputs.specs.declared.outputs.RingOutput.TheVariants.{Stream, File, Segments, Nowhere}
use Rattle.rb_outputs.specs.declared.stream_output.StreamOutput.TheVariants.{Tape, Lines}
use Rattle.rb_outputs.proofs.LinesGiven.{HoldsLines, all_lines}

module _ {A B S F : Type 0} (contents : A → Option (List ℕ)) (writes_out : A → Bool → A → Type 0) (file_contents : B → Option (List ℕ)) (file_writes_out : B → Bool → B → Type 0)
    (segments : S → Option (List Segment)) (segment_contents : F → Option (List ℕ)) where
  abbrev takes : RingOutput A B S F → SinkItem → RingOutput A B S F → Type 0
  takes = output_takes contents writes_out file_contents file_writes_out segments segment_contents

  abbrev on_stream : SinkLines A → RingOutput A B S F
  on_stream lines = Stream (Lines lines)

  abbrev in_file : SinkLines B → RingOutput A B S F
  in_file lines = File (Lines lines)

  -- one item: the output is one of lines as before
  one_on_stream : (old : SinkLines A) (item : SinkItem) (mid : RingOutput A B S F) → takes (on_stream old) item mid → HoldsLines contents takes on_stream old (sink_tape_items (item ∷ [])) mid
  one_on_stream old item (Stream (Tape t)) took = absurd took
  one_on_stream old item (Stream (Lines l)) took = (l, refl, took.0)
  one_on_stream old item (File o) took = absurd took
  one_on_stream old item (Segments t) took = absurd took
  one_on_stream old item (Nowhere s) took = absurd took

  one_in_file : (old : SinkLines B) (item : SinkItem) (mid : RingOutput A B S F) → takes (in_file old) item mid → HoldsLines file_contents takes in_file old (sink_tape_items (item ∷ [])) mid
  one_in_file old item (Stream o) took = absurd took
  one_in_file old item (File (Tape t)) took = absurd took
  one_in_file old item (File (Lines l)) took = (l, refl, took.0)
  one_in_file old item (Segments t) took = absurd took
  one_in_file old item (Nowhere s) took = absurd took

  pub all_on_stream : (items : List SinkItem) (old : SinkLines A) (new : RingOutput A B S F) → TakesAll takes (on_stream old) items new → HoldsLines contents takes on_stream old (sink_tape_items items) new
  all_on_stream items old new given = all_lines contents takes on_stream one_on_stream items old new given

  pub all_in_file : (items : List SinkItem) (old : SinkLines B) (new : RingOutput A B S F) → TakesAll takes (in_file old) items new → HoldsLines file_contents takes in_file old (sink_tape_items items) new
  all_in_file items old new given = all_lines file_contents takes in_file one_in_file items old new given
