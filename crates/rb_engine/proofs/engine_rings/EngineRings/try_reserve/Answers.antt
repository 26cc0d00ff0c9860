use Rattle.std.proofs.Common.{◌<◌, length, refl, ap, rules}
use Rattle.rb_engine.specs.EngineCalls.{RunRings}
use Rattle.rb_engine.specs.RingCalls.{Grants, IsRefused}
use Rattle.rb_engine.specs.RingTurns.{AfterTurn}
use Rattle.rb_engine.proofs.OneRing.{at-ring}
use Rattle.rb_engine.proofs.engine_rings.EngineRings.try_reserve.Goals as goal

pub returns-in_default-clause-answered : goal.returns-in_default-clause-answered
returns-in_default-clause-answered c =
    let below : c.args.ring < length c.self.inside.rings.items = search rules in (
      (λ zero. at-ring (IsRefused c.args.n) c.args.self.now.rings c.self.inside.rings.items c.args.ring c.index_mut.result.now c.reserve.new.self (ap (λ (h : RunRings). h.rings) c.self.view_is) below c.index_mut.ensures.value c.in_default.ensures.refused),
      (λ some. absurd (some c.if-flags-ne0.false)),
    )

pub returns-clause-answered : goal.returns-clause-answered
returns-clause-answered c =
    let below : c.args.ring < length c.self.inside.rings.items = search rules in (
      c.if-flags-ne0.false,
      refl,
      at-ring (AfterTurn (Grants c.args.n c.in-Some.reservation)) c.args.self.now.rings c.self.inside.rings.items c.args.ring c.index_mut.result.now c.reserve.new.self (ap (λ (h : RunRings). h.rings) c.self.view_is) below c.index_mut.ensures.value c.in-Some.ensures.granted,
    )
