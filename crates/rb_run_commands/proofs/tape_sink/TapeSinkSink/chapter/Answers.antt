use Rattle.rb_run_commands.proofs.TapeGiven.{only_handed_on}
use Rattle.rb_run_commands.proofs.tape_sink.TapeSinkSink.chapter.Goals as goal

pub returns-clause-took : goal.returns-clause-took
returns-clause-took g c =
    let e = c.write_out.ensures in
    (only_handed_on g.W.Write.contents c.args.self.now c.write_out.new.self e.bytes e.size e.failed, e.called)
