use Rattle.std.proofs.Common.{List, ◌++◌, ◌∷◌, [], sym, subst}
use Rattle.rb_dealing.specs.Queues.{AreEmptyQueues}
use Rattle.rb_dealing.specs.declared.lane.LaneFeed.{LaneFeed}
use Rattle.rb_dealing.specs.declared.lane.Lane.{Lane}
use Rattle.rb_dealing.proofs.LaneLaws.{queues_more}
use Rattle.rb_dealing.proofs.lane.add_lane.Goals as goal

pub returns-in_err-reserve-clause-empty : goal.returns-in_err-reserve-clause-empty
returns-in_err-reserve-clause-empty g c = subst (λ (l : List LaneFeed). AreEmptyQueues l c.args.lanes.now.items) (sym c.reserve.ensures.items) c.requires.empty

pub returns-in_err-reserve-2-clause-empty : goal.returns-in_err-reserve-2-clause-empty
returns-in_err-reserve-2-clause-empty g c =
    subst (λ (l : List (Lane g.row.W.Denot)). AreEmptyQueues c.reserve.new.self.items l) (sym c.reserve-2.ensures.items) (subst (λ (l : List LaneFeed). AreEmptyQueues l c.args.lanes.now.items) (sym c.reserve.ensures.items) c.requires.empty)

pub returns-in_err-feed-clause-empty : goal.returns-in_err-feed-clause-empty
returns-in_err-feed-clause-empty g c =
    subst (λ (l : List (Lane g.row.W.Denot)). AreEmptyQueues c.reserve.new.self.items l) (sym c.reserve-2.ensures.items) (subst (λ (l : List LaneFeed). AreEmptyQueues l c.args.lanes.now.items) (sym c.reserve.ensures.items) c.requires.empty)

pub returns-clause-empty : goal.returns-clause-empty
returns-clause-empty g c =
    let feed = c.in_ok-feed.feed in
    let lane = c.in_ok-feed.lane in
    subst (λ (l : List LaneFeed). AreEmptyQueues l c.push_reserved-2.new.self.items) (sym c.push_reserved.ensures.items)
    (subst (λ (l : List (Lane g.row.W.Denot)). AreEmptyQueues (c.reserve.new.self.items ++ feed ∷ []) l) (sym c.push_reserved-2.ensures.items)
    (subst (λ (l : List (Lane g.row.W.Denot)). AreEmptyQueues (c.reserve.new.self.items ++ feed ∷ []) (l ++ lane ∷ [])) (sym c.reserve-2.ensures.items)
    (subst (λ (l : List LaneFeed). AreEmptyQueues (l ++ feed ∷ []) (c.args.lanes.now.items ++ lane ∷ [])) (sym c.reserve.ensures.items)
    (queues_more c.args.feeds.now.items c.args.lanes.now.items feed lane c.requires.pairs.0 c.requires.empty c.in_ok-feed.ensures.empty))))
