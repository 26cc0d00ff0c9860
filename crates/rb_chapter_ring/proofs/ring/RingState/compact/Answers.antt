use Rattle.std.proofs.Common.{◌∙◌, ap}
use Rattle.rb_chapter_ring.specs.Chapters.{Chapter}
use Rattle.rb_chapter_ring.specs.HandRing.{hand_ring}
use Rattle.rb_chapter_ring.specs.inner.RingBody.{ring_of, stored_of}
use Rattle.rb_chapter_ring.proofs.ring.RingState.compact.Goals as goal

pub invariant_of-self : goal.invariant_of-self
invariant_of-self c = rw c.compact.ensures.same c.self.invariant

pub returns : goal.returns
returns c =
    let a = c.self.inside in
    record { same = ap (λ (d : Chapter). record { tag = a.tag; state = hand_ring (ring_of d (stored_of d a.sheets.items)) a.hands.items }) c.compact.ensures.same ∙ c.self.view_is }
