use Rattle.std.proofs.Common.{◌≡◌, ◌<◌, length, sym, ap, subst}
use Rattle.rb_chapter_ring.specs.HandRing.{HandRing}
use Rattle.rb_chapter_ring.specs.OpenedRing.{told_counts}
use Rattle.rb_engine.specs.EngineCalls.{RunRings}
use Rattle.rb_engine.proofs.OneRing.{of-ring}
use Rattle.rb_engine.proofs.engine_rings.EngineRings.counts.Goals as goal

pub returns : goal.returns
returns c =
    let below = subst (λ (h : RunRings). c.args.ring < length h.rings) (sym c.self.view_is) c.requires.ring in
    record { counts = of-ring (λ (v : HandRing). c.counts.result ≡ told_counts v.ring) c.args.self.now.rings c.self.inside.rings.items c.args.ring c.index.result.now (ap (λ (h : RunRings). h.rings) c.self.view_is) below c.index.ensures c.counts.ensures.counts }
