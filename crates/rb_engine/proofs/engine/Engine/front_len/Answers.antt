use Rattle.std.proofs.Common.{ℕ, subst, IfNone, IfSome}
use Rattle.rb_engine.specs.EngineCalls.{OfRing}
use Rattle.rb_engine.specs.EngineValue.{EngineValue}
use Rattle.rb_engine.specs.RingCalls.{HasWaitingFront}
use Rattle.rb_engine.proofs.engine.Engine.front_len.Goals as goal

pub returns-clause-waiting : goal.returns-clause-waiting
returns-clause-waiting c = subst (λ (e : EngineValue). IfSome c.front_len.result (λ n. OfRing c.args.ring (λ v. HasWaitingFront v n) e.rings)) c.self.view_is c.front_len.ensures.waiting

pub returns-clause-none : goal.returns-clause-none
returns-clause-none c = subst (λ (e : EngineValue). IfNone c.front_len.result (OfRing c.args.ring (λ v. (n : ℕ) → ¬ HasWaitingFront v n) e.rings)) c.self.view_is c.front_len.ensures.none
