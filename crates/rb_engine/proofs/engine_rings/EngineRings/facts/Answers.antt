use Rattle.std.proofs.Common.{◌<◌, List, length, sym, ap, subst}
use Rattle.rb_history.specs.declared.entries.Entry.{Entry}
use Rattle.rb_chapter_ring.specs.HandRing.{HandRing}
use Rattle.rb_chapter_ring.specs.WholeHistory.{IsKept}
use Rattle.rb_engine.specs.EngineCalls.{RunRings}
use Rattle.rb_engine.proofs.OneRing.{of-ring}
use Rattle.rb_engine.proofs.engine_rings.EngineRings.facts.Goals as goal

pub returns : goal.returns
returns c =
    let below = subst (λ (h : RunRings). c.args.ring < length h.rings) (sym c.self.view_is) c.requires.ring in
    record { kept = of-ring (λ (v : HandRing). (earlier : List Entry) × IsKept earlier v.ring.chapter) c.args.self.now.rings c.self.inside.rings.items c.args.ring c.index.result.now (ap (λ (h : RunRings). h.rings) c.self.view_is) below c.index.ensures c.facts.ensures.kept }
