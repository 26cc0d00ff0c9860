use Rattle.rb_outputs.proofs.LineOutputs.{all_on_stream, all_in_file}
use Rattle.rb_outputs.proofs.laws.lines_hold_what_was_taken.Goals as goal

pub returns : goal.returns
returns g c = record {
  stream = λ old items new. all_on_stream g.A.Write.contents g.A.Outgoing.writes_out g.B.Write.contents g.B.Outgoing.writes_out g.S.SegmentStore.segments g.F.Write.contents items old new;
  file = λ old items new. all_in_file g.A.Write.contents g.A.Outgoing.writes_out g.B.Write.contents g.B.Outgoing.writes_out g.S.SegmentStore.segments g.F.Write.contents items old new;
}
