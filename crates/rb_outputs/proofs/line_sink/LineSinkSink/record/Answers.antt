use Rattle.std.proofs.Common.{rules}
use Rattle.rb_outputs.proofs.LinesGiven.{took_line, took_nothing}
use Rattle.rb_outputs.proofs.line_sink.LineSinkSink.record.Goals as goal

pub returns-then-self-clause-took : goal.returns-then-self-clause-took
returns-then-self-clause-took g c = search (rules, took_nothing g.W.Write.contents g.W.Outgoing.writes_out c.args.self.now)

pub returns-clause-took : goal.returns-clause-took
returns-clause-took g c = search (rules, took_line g.W.Write.contents g.W.Outgoing.writes_out c.args.self.now)
