use Rattle.rb_waiting.proofs.RingSizes.{turns_need}
use Rattle.rb_waiting.proofs.waiting_sizes.turns_need_their_sizes.Goals as goal

pub returns : goal.returns
returns c = turns_need
