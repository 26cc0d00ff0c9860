use Rattle.rb_outputs.proofs.Segmented.{all_items}
use Rattle.rb_outputs.proofs.laws.segments_hold_what_was_taken.Goals as goal

pub returns : goal.returns
returns g c = record {
  law = λ old items new. all_items g.A.Write.contents g.A.Outgoing.writes_out g.B.Write.contents g.B.Outgoing.writes_out g.S.SegmentStore.segments g.F.Write.contents items old new;
}
