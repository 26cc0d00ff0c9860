use Rattle.std.proofs.Common.{◌+◌, ap, not, ◌∙◌, arith}
use Rattle.rb_tape.specs.TapeCalls.{failures_after}
use Rattle.rb_tape_commands.proofs.TapeCallRuns.{waited}
use Rattle.rb_tape_commands.proofs.retries.write_tape_out.Goals as goal

pub loop-retries-preserved : goal.loop-retries-preserved
loop-retries-preserved g c =
    let i = c.loop-retries.invariant in
    let w = c.write_out.ensures in
    let failed = c.is_err.ensures.negation ∙ ap not c.loop-retries-test.true in
    let more = w.failures ∙ ap (failures_after c.loop-retries.tape.failures) failed in
    record {
      same = waited g.W.Write.contents _ _ _ _ i.same w.size w.position w.unfinished w.bytes w.call;
      counted = omega (arith, i.counted, more, c.if-retries-eq0.false);
    }

pub returns-then-retries-eq0-clause-same : goal.returns-then-retries-eq0-clause-same
returns-then-retries-eq0-clause-same g c =
    let w = c.write_out.ensures in
    waited g.W.Write.contents _ _ _ _ c.loop-retries.invariant.same w.size w.position w.unfinished w.bytes w.call

pub returns-clause-same : goal.returns-clause-same
returns-clause-same g c =
    let w = c.write_out.ensures in
    waited g.W.Write.contents _ _ _ _ c.loop-retries.invariant.same w.size w.position w.unfinished w.bytes w.call
