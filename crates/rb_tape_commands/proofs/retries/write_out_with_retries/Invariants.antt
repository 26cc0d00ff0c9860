use Rattle.std.proofs.Common.{◌≡◌, ◌+◌, ℕ}
use Rattle.std.specs.Io.KnownBytes.{Keeps}
use Rattle.rb_tape_commands.specs.Retries.{FailsTimes}
use Rattle.rb_tape_commands.proofs.retries.write_out_with_retries.Given as goal

-- each failed call used one retry
abbrev pub invariant-loop-retries : goal.invariant-loop-retries
invariant-loop-retries g l = record {
  kept : Keeps (g.W.Write.contents l.fn.writer) (g.W.Write.contents l.writer);
  failed : (n : ℕ) × (n + l.left ≡ l.retries) × FailsTimes g.W.Outgoing.writes_out n l.fn.writer l.writer;
}

abbrev pub decreases-loop-retries : goal.decreases-loop-retries
decreases-loop-retries g l = l.left
