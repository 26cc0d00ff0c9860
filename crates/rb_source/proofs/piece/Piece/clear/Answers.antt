use Rattle.std.proofs.Common.{refl}
use Rattle.rb_source.proofs.piece.Piece.clear.Goals as goal

pub returns : goal.returns
returns c = rw (← c.self.view_is) (record { empty = refl })
