use Rattle.rb_explain.specs.Objects.{record_field}
use Rattle.rb_explain.proofs.Joining.{joins_item}
use Rattle.rb_explain.proofs.objects.push_records.Goals as goal

pub loop-reference-preserved : goal.loop-reference-preserved
loop-reference-preserved c =
    joins_item record_field _ _ _ _ _ _ c.loop-reference-test.true c.loop-reference.invariant c.in_ok-push_record.ensures.added
