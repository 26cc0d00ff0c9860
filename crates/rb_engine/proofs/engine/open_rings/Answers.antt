use Rattle.std.proofs.Common.{◌++◌, ◌∷◌, [], sym, ◌∙◌}
use Rattle.std.proofs.lemmas.List.{map_more}
use Rattle.rb_engine.specs.OpenedEngine.{fresh_ring}
use Rattle.rb_engine.proofs.engine.open_rings.Goals as goal

pub loop-number-preserved : goal.loop-number-preserved
loop-number-preserved c =
    c.in_ok-push.ensures.items
    ∙ (λ j. c.loop-number.invariant j ++ c.in_ok-ring.ensures.opened j ∷ [])
    ∙ sym (map_more fresh_ring c.args.sizes.now c.loop-number.number 0 c.loop-number-test.true)
