use Rattle.std.proofs.Common.{◌∙◌, length-set, arith}
use Rattle.rb_verifier.specs.inner.ChangedValues.{after_change}
use Rattle.rb_verifier.proofs.Registers.{changed_more}
use Rattle.rb_verifier.proofs.reference_changes.changed_values.Goals as goal

pub loop-i-preserved : goal.loop-i-preserved
loop-i-preserved c = record {
  count = length-set c.loop-i.values c.loop-i.i c.changed.result ∙ c.loop-i.invariant.count;
  mapped = changed_more (after_change c.args.change) c.args.values c.loop-i.values c.loop-i.i c.changed.result (omega arith) (omega arith) c.loop-i.invariant.mapped c.changed.ensures;
}
