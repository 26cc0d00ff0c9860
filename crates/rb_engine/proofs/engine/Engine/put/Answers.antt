use Rattle.std.proofs.Common.{◌∙◌, ap, subst, length, IfOk}
use Rattle.rb_engine.specs.EngineCalls.{AtRing}
use Rattle.rb_engine.specs.EngineValue.{EngineValue}
use Rattle.rb_engine.specs.RingCalls.{HasNoRoom, Outputs}
use Rattle.rb_engine.specs.RingTurns.{AfterTurn}
use Rattle.rb_engine.proofs.engine.Engine.put.Goals as goal

pub returns-clause-put : goal.returns-clause-put
returns-clause-put c = subst (λ (e : EngineValue). IfOk c.put.result (λ notice. AtRing c.args.ring (AfterTurn (Outputs c.args.bytes.now c.args.flags notice)) e.rings c.put.new.self.rings)) c.self.view_is c.put.ensures.put

pub returns-clause-full : goal.returns-clause-full
returns-clause-full c = λ is. subst (λ (e : EngineValue). AtRing c.args.ring (AfterTurn (HasNoRoom (length c.args.bytes.now))) e.rings c.put.new.self.rings) c.self.view_is (c.put.ensures.full is)

pub returns-clause-memory : goal.returns-clause-memory
returns-clause-memory c = λ is. let refused = c.put.ensures.memory is in (refused.0, refused.1 ∙ ap (λ (e : EngineValue). e.rings) c.self.view_is)
