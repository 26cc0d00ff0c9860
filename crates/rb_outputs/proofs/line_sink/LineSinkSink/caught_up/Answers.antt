use Rattle.rb_outputs.proofs.LinesGiven.{only_flushed}
use Rattle.rb_outputs.proofs.line_sink.LineSinkSink.caught_up.Goals as goal

pub returns-clause-took : goal.returns-clause-took
returns-clause-took g c =
    let e = c.write_out.ensures in
    (only_flushed g.W.Write.contents c.args.self.now c.write_out.new.self e.bytes e.failed, e.called)
