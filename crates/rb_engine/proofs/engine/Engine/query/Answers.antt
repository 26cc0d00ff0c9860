use Rattle.std.proofs.Common.{◌≡◌, subst}
use Rattle.rb_chapter_ring.specs.CountedFrom.{query_answer_from}
use Rattle.rb_engine.specs.EngineCalls.{OfRing}
use Rattle.rb_engine.specs.EngineValue.{EngineValue}
use Rattle.rb_engine.proofs.engine.Engine.query.Goals as goal

pub returns : goal.returns
returns c = record { answer = subst (λ (e : EngineValue). OfRing c.args.ring (λ v. c.answer.result ≡ query_answer_from v.ring.chapter.opening v.ring.chapter.entries c.args.what) e.rings) c.self.view_is c.answer.ensures.answer }
