use Rattle.std.proofs.Common.{◌-◌, ◌≤◌, take, drop}
use Rattle.std.specs.Io.KnownBytes.{Appends}
use Rattle.rb_history.specs.TapeBytes.{item_bytes, item_span}
use Rattle.rb_tape.specs.Items.{item_of}
use Rattle.rb_tape.proofs.piece.write_zeros.Given as goal

-- the record's bytes from `at` on were written, up to the number that is counted
abbrev pub invariant-loop-sent : goal.invariant-loop-sent
invariant-loop-sent g l = record {
  more : l.at ≤ l.sent;
  within : l.sent ≤ item_span (item_of l.item);
  bytes : Appends (g.W.Write.contents l.initial.writer) (g.W.Write.contents l.writer) (drop l.at (take l.sent (item_bytes l.size (item_of l.item))));
}

abbrev pub decreases-loop-sent : goal.decreases-loop-sent
decreases-loop-sent g l = l.span - l.sent
