use Rattle.std.proofs.Common.{refl}
use Rattle.rb_source.proofs.Side.{length-side_by_side}
use Rattle.rb_source.proofs.piece.Piece.is_empty.Goals as goal

pub returns : goal.returns
returns c = rw (← c.self.view_is) (record { value = rw length-side_by_side refl })
