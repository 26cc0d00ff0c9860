use Rattle.rb_admission.proofs.OnTime.{none_refused_on_time}
use Rattle.rb_admission.proofs.admission_laws.none_is_refused_on_time.Goals as goal

pub returns : goal.returns
returns c = none_refused_on_time
