use Rattle.rb_semantics.proofs.Laws.{can_start}
use Rattle.rb_semantics.proofs.soundness_laws.programs_can_start.Goals as goal

pub returns : goal.returns
returns c = can_start
