use Rattle.rb_semantics.proofs.Laws.{runs_well}
use Rattle.rb_semantics.proofs.soundness_laws.runs_end_well.Goals as goal

pub returns : goal.returns
returns c = runs_well
