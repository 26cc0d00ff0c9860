use Rattle.std.proofs.Common.{◌≡◌, ◌+◌}
use Rattle.rb_tape_commands.specs.inner.WaitingTape.{IsSameTape}
use Rattle.rb_tape_commands.proofs.retries.write_tape_out.Given as goal

-- each failed call used one retry
abbrev pub invariant-loop-retries : goal.invariant-loop-retries
invariant-loop-retries g l = record {
  same : IsSameTape g.W.Write.contents l.fn.tape l.tape;
  counted : l.tape.failures + l.retries ≡ l.fn.tape.failures + l.fn.retries;
}

abbrev pub decreases-loop-retries : goal.decreases-loop-retries
decreases-loop-retries g l = l.retries
