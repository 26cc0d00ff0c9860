use Rattle.std.proofs.Common.{◌<◌, length, sym, ap, subst}
use Rattle.rb_engine.specs.EngineCalls.{RunRings}
use Rattle.rb_engine.specs.RingCalls.{HasNoRoom, Outputs}
use Rattle.rb_engine.specs.RingTurns.{AfterTurn}
use Rattle.rb_engine.proofs.OneRing.{at-ring, at-ring-ok, same-ring}
use Rattle.rb_engine.proofs.engine_rings.EngineRings.put.Goals as goal

pub returns-clause-put : goal.returns-clause-put
returns-clause-put c =
    let below = subst (λ (h : RunRings). c.args.ring < length h.rings) (sym c.self.view_is) c.requires.ring in
    at-ring-ok (λ notice. AfterTurn (Outputs c.args.bytes.now c.args.flags notice)) c.output.result c.args.self.now.rings c.self.inside.rings.items c.args.ring c.index_mut.result.now c.output.new.self (ap (λ (h : RunRings). h.rings) c.self.view_is) below c.index_mut.ensures.value c.output.ensures.sent

pub returns-clause-full : goal.returns-clause-full
returns-clause-full c = λ is.
    let below = subst (λ (h : RunRings). c.args.ring < length h.rings) (sym c.self.view_is) c.requires.ring in
    at-ring (AfterTurn (HasNoRoom (length c.args.bytes.now))) c.args.self.now.rings c.self.inside.rings.items c.args.ring c.index_mut.result.now c.output.new.self (ap (λ (h : RunRings). h.rings) c.self.view_is) below c.index_mut.ensures.value (c.output.ensures.full is)

pub returns-clause-memory : goal.returns-clause-memory
returns-clause-memory c = λ is.
    let refused = c.output.ensures.memory is in (
      refused.0,
      same-ring c.args.self.now.rings c.self.inside.rings.items c.args.ring c.index_mut.result.now c.output.new.self (ap (λ (h : RunRings). h.rings) c.self.view_is) c.index_mut.ensures.value refused.1,
    )
