use Rattle.rb_semantics.proofs.Laws.{sound}
use Rattle.rb_semantics.proofs.soundness_laws.steps_are_sound.Goals as goal

pub returns : goal.returns
returns c = sound
