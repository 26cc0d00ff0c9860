use Rattle.std.proofs.Common.{refl, sym, ap, ◌∙◌, subst}
use Rattle.rb_chapter_ring.specs.ChapterCalls.{HandsOut}
use Rattle.rb_chapter_ring.specs.HandRing.{hand_ring}
use Rattle.rb_chapter_ring.specs.TaggedRing.{TaggedRing}
use Rattle.rb_chapter_ring.specs.inner.RingBody.{parts_of, ring_in, IsRingState}
use Rattle.rb_chapter_ring.proofs.RingSteps.{HandsOutParts, after_take, hands-out-parts}
use Rattle.rb_chapter_ring.proofs.StateSteps.{handed-holds}
use Rattle.rb_chapter_ring.proofs.ring.RingState.hand_out.Goals as goal
use Rattle.rb_chapter_ring.proofs.ring.RingState.hand_out.Goals.{After-replace}

-- the ring continues in the next chapter
turned : (c : After-replace) → HandsOutParts (parts_of c.self.inside) (after_take (parts_of c.self.inside) c.open_after.new.self c.self.inside.sheets.items)
turned c =
    let fits = c.may_go_on_in.ensures.exact.0 c.if-not-may_go_on_in.false in
    hands-out-parts (parts_of c.self.inside) c.self.invariant.parts c.open_after.new.self c.open_after.ensures.meets c.open_after.ensures.empty (c.open_after.ensures.room ∙ fits.room_same ∙ sym (ap (λ (s : TaggedRing). s.state.ring.chapter.room) c.self.view_is))

pub invariant_of-self : goal.invariant_of-self
invariant_of-self c =
    let a = c.self.inside in
    let p = parts_of a in
    let q = after_take p c.open_after.new.self p.sheets in
    let i = c.self.invariant in
    let t = turned c in
    subst (λ d. IsRingState (after_take p d p.sheets) a.hands.items a.ordinals.items) (sym c.replace.ensures.after)
    (record { parts = t.keeps.parts; hands = handed-holds i.parts.earlier (hand_ring (ring_in p) a.hands.items) (hand_ring (ring_in q) a.hands.items) a.ordinals.items i.parts.ring.kept i.hands t.keeps.numbers p.chapter t.handed refl })

pub returns-clause-handed_out : goal.returns-clause-handed_out
returns-clause-handed_out c =
    let p = parts_of c.self.inside in
    subst (λ (s : TaggedRing). HandsOut s.state.ring (ring_in (after_take p c.replace.new.dest p.sheets)) c.replace.result) c.self.view_is
    (subst (λ d. HandsOut (ring_in p) (ring_in (after_take p d p.sheets)) c.replace.result) (sym c.replace.ensures.after)
    (subst (HandsOut (ring_in p) (ring_in (after_take p c.open_after.new.self p.sheets))) (sym c.replace.ensures.value) (turned c).handed))
