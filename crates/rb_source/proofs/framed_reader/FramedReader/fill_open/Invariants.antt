use Rattle.std.proofs.Common.{◌≡◌, [], false}
use Rattle.rb_source.specs.Form.{form_len}
use Rattle.rb_source.specs.inner.Steps.{Appends}
use Rattle.rb_source.proofs.framed_reader.FramedReader.fill_open.Given as goal

abbrev pub invariant-reads : goal.invariant-reads
invariant-reads g l = record {
  open_yet : l.self.over ≡ false;
  empty : l.piece.contexts ≡ [];
  size : l.piece.ctx_len ≡ form_len l.self.form;
  gave : Appends g.R.Read.remaining l.initial.self l.self l.initial.piece l.piece;
}
