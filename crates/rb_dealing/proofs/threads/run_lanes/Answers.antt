use Rattle.std.proofs.Common.{refl}
use Rattle.rb_dealing.proofs.Streams.{stream_ran}
use Rattle.rb_dealing.proofs.threads.run_lanes.Goals as goal

pub returns-clause-stream : goal.returns-clause-stream
returns-clause-stream g c =
    let d = c.deal_and_work.ensures in
    let new = c.deal_and_work.new in
    stream_ran g.I.Source.gives g.W.Work.ready g.W.Work.runs c.runs_compose.ensures.law c.args.source.now new.source c.args.feeds.now new.feeds c.args.lanes.now new.lanes c.finish_all.new.lanes _ new.dealing _ refl refl refl refl c.requires.pairs.0 c.deal_and_work.auto.lanes c.finish_all.auto.lanes
    c.requires.empty d.dealt d.ran c.finish_all.ensures.finished
