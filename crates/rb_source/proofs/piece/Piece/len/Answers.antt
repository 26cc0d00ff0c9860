use Rattle.std.proofs.Common.{sym}
use Rattle.rb_source.proofs.Side.{length-side_by_side}
use Rattle.rb_source.proofs.piece.Piece.len.Goals as goal

pub returns-clause-value : goal.returns-clause-value
returns-clause-value c = rw (← c.self.view_is) (sym (length-side_by_side c.self.inside.ctx_len c.self.inside.count c.self.inside.bytes.items))
