use Rattle.std.proofs.Common.{◌∙◌, sym}
use Rattle.rb_waiting.proofs.Rings.{fails_unlogged, none_refused}
use Rattle.rb_waiting.proofs.waiting_stream.run_waiting_stream.Goals as goal

pub run_stream_as-requires-clause-limits : goal.run_stream_as-requires-clause-limits
run_stream_as-requires-clause-limits g c κs within = (c.requires.planned.some, c.requires.planned.as_many ∙ sym c.args.opened.ok.0)

pub returns-in-Ok-clause-none_refused : goal.returns-in-Ok-clause-none_refused
returns-in-Ok-clause-none_refused g c =
    none_refused g.S.Sink.position_of g.S.Sink.takes g.I.Source.gives c.args.opened.items c.args.programs.now c.args.turns c.args.options.bound c.args.source.now c.run_stream_as.new.source c.in-Ok.report
    c.requires.opened c.requires.planned c.in-Ok.ensures.streamed

pub returns-in-Ok-clause-fails_unlogged : goal.returns-in-Ok-clause-fails_unlogged
returns-in-Ok-clause-fails_unlogged g c =
    fails_unlogged g.S.Sink.position_of g.S.Sink.takes g.I.Source.gives c.args.opened.items c.args.programs.now c.args.turns c.args.options.bound c.args.source.now c.run_stream_as.new.source c.in-Ok.report
    c.requires.opened c.requires.planned c.in-Ok.ensures.streamed
