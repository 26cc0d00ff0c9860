use Rattle.std.proofs.Common.{◌≡◌, ◌<◌, false, None, length}
use Rattle.rb_source.specs.Form.{form_len}
use Rattle.rb_source.specs.Piece.{room_for}
use Rattle.rb_source.specs.inner.Steps.{Appends}
use Rattle.rb_source.proofs.framed_reader.FramedReader.take_fronts.Given as goal

abbrev pub invariant-portions : goal.invariant-portions
invariant-portions g l = record {
  open_yet : l.self.over ≡ false;
  short : l.self.long ≡ None;
  size : l.piece.ctx_len ≡ form_len l.self.form;
  room : length l.piece.contexts < room_for l.piece.ctx_len;
  gave : Appends g.R.Read.remaining l.initial.self l.self l.initial.piece l.piece;
}

abbrev pub decreases-portions : goal.decreases-portions
decreases-portions g l = length l.self.rest
