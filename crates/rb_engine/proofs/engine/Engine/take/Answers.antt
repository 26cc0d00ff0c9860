use Rattle.std.proofs.Common.{subst}
use Rattle.rb_engine.specs.EngineCalls.{AtRing, OfRing}
use Rattle.rb_engine.specs.EngineValue.{EngineValue}
use Rattle.rb_engine.specs.RingCalls.{Takes, WasFront}
use Rattle.rb_engine.proofs.engine.Engine.take.Goals as goal

pub returns-clause-taken : goal.returns-clause-taken
returns-clause-taken c = subst (λ (e : EngineValue). AtRing c.args.ring (Takes c.take.result) e.rings c.take.new.self.rings) c.self.view_is c.take.ensures.taken

pub returns-clause-front : goal.returns-clause-front
returns-clause-front c = subst (λ (e : EngineValue). OfRing c.args.ring (λ v. WasFront c.take.result v) e.rings) c.self.view_is c.take.ensures.front
