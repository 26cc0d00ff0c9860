use Rattle.std.proofs.Common.{◌≡◌, ◌<◌, length, sym, ap, subst}
use Rattle.rb_chapter_ring.specs.CountedFrom.{query_answer_from}
use Rattle.rb_chapter_ring.specs.HandRing.{HandRing}
use Rattle.rb_engine.specs.EngineCalls.{RunRings}
use Rattle.rb_engine.proofs.OneRing.{of-ring}
use Rattle.rb_engine.proofs.engine_rings.EngineRings.answer.Goals as goal

pub returns : goal.returns
returns c =
    let below = subst (λ (h : RunRings). c.args.ring < length h.rings) (sym c.self.view_is) c.requires.ring in
    record { answer = of-ring (λ (v : HandRing). c.query.result ≡ query_answer_from v.ring.chapter.opening v.ring.chapter.entries c.args.what) c.args.self.now.rings c.self.inside.rings.items c.args.ring c.index.result.now (ap (λ (h : RunRings). h.rings) c.self.view_is) below c.index.ensures c.query.ensures.answer }
