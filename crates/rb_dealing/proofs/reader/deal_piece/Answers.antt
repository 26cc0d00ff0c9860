use Rattle.std.proofs.Common.{◌∷◌, [], Some, arith, subst}
use Rattle.rb_dealing.specs.inner.Feeds.{Fed}
use Rattle.rb_dealing.proofs.Feeds.{deals_piece, fed_on}
use Rattle.rb_dealing.proofs.reader.deal_piece.Goals as goal

pub returns-in-Ok-clause-dealt : goal.returns-in-Ok-clause-dealt
returns-in-Ok-clause-dealt g c =
    let i = c.loop.invariant in
    let d = c.in-Ok.ensures.dealt in
    let l = i.1.0 in
    let contexts = c.args.piece.contexts in
    deals_piece contexts (Some c.in-Ok.at) c.args.feeds.now c.offer.new.feeds c.args.dealing.now _
    (omega (arith, l, d.0))
    (subst (λ xs. Fed c.args.feeds.now (record { contexts = xs; worker = Some c.in-Ok.at } ∷ []) c.offer.new.feeds) (λ j. (i.0 j).contexts) (fed_on c.args.feeds.now c.loop.feeds c.offer.new.feeds [] (record { contexts = c.loop.piece.contexts; worker = Some c.in-Ok.at } ∷ []) i.1 d.1))
    i.2 (let e = i.3 in let b = c.requires in omega (arith, e, b))
