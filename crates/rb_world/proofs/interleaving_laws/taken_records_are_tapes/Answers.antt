use Rattle.rb_world.proofs.AllTaken.{enough-takes}
use Rattle.rb_world.proofs.TakenTapes.{stand-on-tapes}
use Rattle.rb_world.proofs.interleaving_laws.taken_records_are_tapes.Goals as goal

pub returns : goal.returns
returns c = record { stand = stand-on-tapes; none_left = enough-takes }
