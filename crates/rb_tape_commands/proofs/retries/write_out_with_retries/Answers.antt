use Rattle.std.proofs.Common.{suc, ap, not, ◌∙◌, subst, arith}
use Rattle.std.proofs.KnownBytes.{Keeps-trans}
use Rattle.rb_tape_commands.proofs.retries.write_out_with_retries.Goals as goal

pub loop-retries-preserved : goal.loop-retries-preserved
loop-retries-preserved g c =
    let i = c.loop-retries.invariant in
    let one_more = subst (λ ok. g.W.Outgoing.writes_out c.loop-retries.writer ok c.write_out.new.self) (c.is_err.ensures.negation ∙ ap not c.loop-retries-test.true) c.write_out.ensures.called in
    record {
      kept = Keeps-trans _ _ _ i.kept c.write_out.ensures.bytes;
      failed = (suc i.failed.0, omega (arith, i.failed.1, c.if-left-eq0.false), (c.loop-retries.writer, i.failed.2, one_more));
    }
