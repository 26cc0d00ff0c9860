use Rattle.rb_semantics.proofs.Laws.{programs_well}
use Rattle.rb_semantics.proofs.soundness_laws.verified_programs_end_well.Goals as goal

pub returns : goal.returns
returns c = programs_well
