-- A call of `feed`, with its numbers and texts in order.
use Rattle.std.specs.Prelude.{ℕ, List, Option}
use Rattle.rb_tape_commands.specs.Feed.{FeedRun}

abbrev pub feed_run : ℕ → ℕ → Option (List ℕ) → Option (List ℕ) → Option (List ℕ) → Option (List ℕ) → FeedRun
feed_run size start input_before input_after output_before output_after =
    record { size = size; start = start; input_before = input_before; input_after = input_after; output_before = output_before; output_after = output_after }
