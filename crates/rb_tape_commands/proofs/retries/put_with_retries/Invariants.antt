use Rattle.std.proofs.Common.{◌≡◌, ◌+◌, ◌<◌, ◌≤◌, take}
use Rattle.std.specs.Prelude.{Some}
use Rattle.std.specs.Io.KnownBytes.{Appends}
use Rattle.rb_history.specs.TapeBytes.{item_bytes, item_span}
use Rattle.rb_tape.specs.Items.{item_of}
use Rattle.rb_tape_commands.specs.Retries.{LeadsByCalls}
use Rattle.rb_tape_commands.proofs.retries.put_with_retries.Given as goal

-- the counted bytes of the record were written, and some are left
abbrev pub invariant-loop-retries : goal.invariant-loop-retries
invariant-loop-retries g l = record {
  size : l.tape.size ≡ l.fn.tape.size;
  position : l.tape.position ≡ l.fn.tape.position;
  unfinished : l.tape.unfinished ≡ Some (item_of l.item);
  within : l.tape.sent < item_span (item_of l.item);
  bytes : Appends (g.W.Write.contents l.fn.tape.writer) (g.W.Write.contents l.tape.writer) (take l.tape.sent (item_bytes l.fn.tape.size (item_of l.item)));
  fewer : l.retries ≤ l.fn.retries;
  calls : LeadsByCalls g.W.Write.contents l.fn.tape l.tape;
  counted : l.tape.failures + l.retries ≡ l.fn.tape.failures + l.fn.retries + 1;
}

abbrev pub decreases-loop-retries : goal.decreases-loop-retries
decreases-loop-retries g l = l.retries
