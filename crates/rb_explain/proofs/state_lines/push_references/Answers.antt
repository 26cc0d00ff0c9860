use Rattle.rb_explain.specs.StateTexts.{reference_text}
use Rattle.rb_explain.proofs.Joining.{joins_item}
use Rattle.rb_explain.proofs.state_lines.push_references.Goals as goal

pub loop-reference-preserved : goal.loop-reference-preserved
loop-reference-preserved c =
    joins_item reference_text _ _ _ _ _ _ c.loop-reference-test.true c.loop-reference.invariant c.in_ok-push_reference.ensures.added
