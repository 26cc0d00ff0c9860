use Rattle.std.proofs.Common.{◌<◌, ℕ, length, sym, ap, subst}
use Rattle.rb_chapter_ring.specs.HandRing.{HandRing}
use Rattle.rb_engine.specs.EngineCalls.{RunRings}
use Rattle.rb_engine.specs.RingCalls.{HasWaitingFront}
use Rattle.rb_engine.proofs.OneRing.{of-ring-some, of-ring-none}
use Rattle.rb_engine.proofs.engine_rings.EngineRings.front_len.Goals as goal

pub returns-clause-waiting : goal.returns-clause-waiting
returns-clause-waiting c =
    let below = subst (λ (h : RunRings). c.args.ring < length h.rings) (sym c.self.view_is) c.requires.ring in
    of-ring-some (λ n (v : HandRing). HasWaitingFront v n) c.front_len.result c.args.self.now.rings c.self.inside.rings.items c.args.ring c.index.result.now (ap (λ (h : RunRings). h.rings) c.self.view_is) below c.index.ensures c.front_len.ensures.waiting

pub returns-clause-none : goal.returns-clause-none
returns-clause-none c =
    let below = subst (λ (h : RunRings). c.args.ring < length h.rings) (sym c.self.view_is) c.requires.ring in
    of-ring-none (λ (v : HandRing). (n : ℕ) → ¬ HasWaitingFront v n) c.front_len.result c.args.self.now.rings c.self.inside.rings.items c.args.ring c.index.result.now (ap (λ (h : RunRings). h.rings) c.self.view_is) below c.index.ensures c.front_len.ensures.none
