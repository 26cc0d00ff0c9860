use Rattle.rb_verifier.proofs.Forms.{step_forms}
use Rattle.rb_verifier.proofs.step_laws.step_keeps_form.Goals as goal

pub returns : goal.returns
returns c = step_forms
