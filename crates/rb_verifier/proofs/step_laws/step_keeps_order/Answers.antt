use Rattle.rb_verifier.proofs.StepOrder.{step_below}
use Rattle.rb_verifier.proofs.step_laws.step_keeps_order.Goals as goal

pub returns : goal.returns
returns c = step_below
