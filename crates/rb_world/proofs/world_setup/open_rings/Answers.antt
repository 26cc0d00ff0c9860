use Rattle.std.proofs.Common.{◌≡◌, ◌+◌, ◌<◌, ◌++◌, ◌∷◌, [], take, length, get_or, sym, ap, ◌∙◌, arith}
use Rattle.std.proofs.lemmas.List.{length-take, take_more}
use Rattle.rb_chapter_ring.specs.HandRing.{HandRing}
use Rattle.rb_world.specs.declared.world_setup.RingSetup.{RingSetup}
use Rattle.rb_world.specs.OpenedWorlds.{opened_kept_ring, opened_rings}
use Rattle.rb_world.proofs.KeptChapters.{first-has}
use Rattle.rb_world.proofs.Openings.{opened-push}
use Rattle.rb_world.proofs.world_setup.open_rings.Goals as goal

pub invariant_of-push : goal.invariant_of-push
invariant_of-push c = first-has _ _ _ (ap (λ (v : HandRing). v.ring.chapter) c.in-Ok.ensures.opened) c.new-in-loop-number.ensures.items

pub loop-number-preserved : goal.loop-number-preserved
loop-number-preserved c =
    let rings = c.args.rings.now in
    let i = c.loop-number.number in
    let w = c.args.workers in
    let none : RingSetup = record { size = 0; start = 0; room = 0 } in
    let s = get_or rings i none in
    let low : i < length rings = c.loop-number-test.true in
    let long : 0 + length (take i rings) ≡ i = omega (arith, length-take i rings, low) in
    c.in_ok-push.ensures.items
    ∙ (λ j. c.loop-number.invariant j ++ record { ring = record { tag = c.in-Ok.ensures.tag j; state = c.in-Ok.ensures.opened j }; chapters = c.new-in-loop-number.ensures.items j; taken = c.new-in-loop-number-2.ensures.items j } ∷ [])
    ∙ ap (λ m. opened_rings w 0 (take i rings) ++ opened_kept_ring w m s ∷ []) (sym long)
    ∙ sym (opened-push w 0 (take i rings) s)
    ∙ ap (opened_rings w 0) (sym (take_more rings i none low))
