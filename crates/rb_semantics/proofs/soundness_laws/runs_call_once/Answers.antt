use Rattle.rb_semantics.proofs.Laws.{runs_few}
use Rattle.rb_semantics.proofs.soundness_laws.runs_call_once.Goals as goal

pub returns : goal.returns
returns c = runs_few
