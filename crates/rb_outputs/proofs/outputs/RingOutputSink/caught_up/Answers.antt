use Rattle.std.proofs.Common.{rules}
use Rattle.rb_outputs.proofs.Segmented.{took_none}
use Rattle.rb_outputs.proofs.outputs.RingOutputSink.caught_up.Goals as goal

pub returns-in-Segments-clause-took : goal.returns-in-Segments-clause-took
returns-in-Segments-clause-took g c = search (rules, took_none g.A.Write.contents g.A.Outgoing.writes_out g.B.Write.contents g.B.Outgoing.writes_out g.S.SegmentStore.segments g.F.Write.contents c.args.self.now c.in-Segments.tape)
