use Rattle.rb_admission.proofs.Admitted.{none_refused_after_looks}
use Rattle.rb_admission.proofs.admission_laws.none_is_refused_after_looks.Goals as goal

pub returns : goal.returns
returns c = none_refused_after_looks
