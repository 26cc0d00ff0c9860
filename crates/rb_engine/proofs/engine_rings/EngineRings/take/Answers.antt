use Rattle.std.proofs.Common.{◌<◌, length, sym, ap, subst}
use Rattle.rb_chapter_ring.specs.HandRing.{HandRing}
use Rattle.rb_engine.specs.EngineCalls.{RunRings}
use Rattle.rb_engine.specs.RingCalls.{Takes, WasFront}
use Rattle.rb_engine.proofs.OneRing.{at-ring, of-ring}
use Rattle.rb_engine.proofs.engine_rings.EngineRings.take.Goals as goal

pub returns-clause-taken : goal.returns-clause-taken
returns-clause-taken c =
    let below = subst (λ (h : RunRings). c.args.ring < length h.rings) (sym c.self.view_is) c.requires.ring in
    at-ring (Takes c.take.result) c.args.self.now.rings c.self.inside.rings.items c.args.ring c.index_mut.result.now c.take.new.self (ap (λ (h : RunRings). h.rings) c.self.view_is) below c.index_mut.ensures.value c.take.ensures.takes

pub returns-clause-front : goal.returns-clause-front
returns-clause-front c =
    let below = subst (λ (h : RunRings). c.args.ring < length h.rings) (sym c.self.view_is) c.requires.ring in
    of-ring (λ (v : HandRing). WasFront c.take.result v) c.args.self.now.rings c.self.inside.rings.items c.args.ring c.index_mut.result.now (ap (λ (h : RunRings). h.rings) c.self.view_is) below c.index_mut.ensures.value c.take.ensures.front
