use Rattle.std.proofs.Common.{rules}
use Rattle.rb_outputs.proofs.Segmented.{took_record}
use Rattle.rb_outputs.proofs.outputs.RingOutputSink.record.Goals as goal

pub returns-in-Segments-clause-took : goal.returns-in-Segments-clause-took
returns-in-Segments-clause-took g c = search (rules, took_record g.A.Write.contents g.A.Outgoing.writes_out g.B.Write.contents g.B.Outgoing.writes_out g.S.SegmentStore.segments g.F.Write.contents c.args.self.now c.in-Segments.tape)
