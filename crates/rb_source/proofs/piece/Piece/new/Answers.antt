use Rattle.std.proofs.Common.{refl}
use Rattle.rb_source.proofs.piece.Piece.new.Goals as goal

pub returns : goal.returns
returns c = record { empty = refl }
