use Rattle.std.proofs.Common.{[], arith}
use Rattle.rb_dealing.proofs.Feeds.{deals_none, given_none, given_piece}
use Rattle.rb_dealing.proofs.reader.deal.Goals as goal

pub loop-init : goal.loop-init
loop-init g c = ([], g.met.I.Source.gives_nothing c.args.source.now, deals_none c.args.feeds.now c.args.dealing.now c.requires.fresh.0 c.requires.fresh.1)

pub loop-preserved-in-Ok-More : goal.loop-preserved-in-Ok-More
loop-preserved-in-Ok-More g c =
    given_piece g.I.Source.gives g.met.I.Source.gives_both c.args.source.now c.loop.source c.fill.new.self c.fill.new.piece.contexts c.args.feeds.now c.loop.feeds c.empty_piece.new.feeds c.deal_piece-dropped.new.feeds
    c.args.dealing.now c.loop.dealing c.deal_piece-dropped.new.dealing c.loop.invariant c.empty_piece.ensures.fed c.fill.ensures.gave c.deal_piece-dropped.ensures.dealt

pub loop-preserved : goal.loop-preserved
loop-preserved g c =
    given_piece g.I.Source.gives g.met.I.Source.gives_both c.args.source.now c.loop.source c.fill.new.self c.fill.new.piece.contexts c.args.feeds.now c.loop.feeds c.empty_piece.new.feeds c.deal_piece-dropped.new.feeds
    c.args.dealing.now c.loop.dealing c.deal_piece-dropped.new.dealing c.loop.invariant c.empty_piece.ensures.fed c.fill.ensures.gave c.deal_piece-dropped.ensures.dealt

pub returns-in-Ok-End-clause-dealt : goal.returns-in-Ok-End-clause-dealt
returns-in-Ok-End-clause-dealt g c =
    given_none g.I.Source.gives g.met.I.Source.gives_both c.args.source.now c.loop.source c.fill.new.self c.fill.new.piece.contexts c.args.feeds.now c.loop.feeds c.empty_piece.new.feeds
    c.args.dealing.now c.loop.dealing c.loop.invariant c.empty_piece.ensures.fed c.fill.ensures.gave (rw c.in-Ok-End.field-0-is at c.in-Ok-End.ensures.count)

pub returns-in-Err-clause-dealt : goal.returns-in-Err-clause-dealt
returns-in-Err-clause-dealt g c =
    given_none g.I.Source.gives g.met.I.Source.gives_both c.args.source.now c.loop.source c.fill.new.self c.fill.new.piece.contexts c.args.feeds.now c.loop.feeds c.empty_piece.new.feeds
    c.args.dealing.now c.loop.dealing c.loop.invariant c.empty_piece.ensures.fed c.fill.ensures.gave c.in-Err.ensures.count

pub deal_piece-dropped-requires : goal.deal_piece-dropped-requires
deal_piece-dropped-requires g c = let e = c.loop.invariant.2.dropped_are in omega (arith, e)
