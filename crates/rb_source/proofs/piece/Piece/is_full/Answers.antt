use Rattle.std.proofs.Common.{◌≡◌, length, sym}
use Rattle.rb_source.specs.Piece.{room_for}
use Rattle.rb_source.proofs.Side.{length-side_by_side, room_some}
use Rattle.rb_source.proofs.piece.Piece.is_full.Goals as goal

pub returns-clause-value : goal.returns-clause-value
returns-clause-value c =
    let held : length c.args.self.now.contexts ≡ c.self.inside.count = rw (← c.self.view_is) (length-side_by_side c.self.inside.ctx_len c.self.inside.count c.self.inside.bytes.items) in
    let most : room_for c.args.self.now.ctx_len ≡ c.self.inside.room = rw (← c.self.view_is) (sym c.self.invariant.room_is) in
    cc

pub returns-clause-some : goal.returns-clause-some
returns-clause-some c = rw (← c.self.view_is) (room_some c.self.inside.ctx_len c.self.invariant.fits)
