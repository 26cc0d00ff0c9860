use Rattle.std.proofs.Common.{◌≡◌, subst}
use Rattle.rb_chapter_ring.specs.CountedFrom.{query_answer_from}
use Rattle.rb_chapter_ring.specs.HandRing.{HandRing}
use Rattle.rb_engine.proofs.engine_ring.EngineRing.query.Goals as goal

pub returns : goal.returns
returns c = record { answer = subst (λ (v : HandRing). c.query.result ≡ query_answer_from v.ring.chapter.opening v.ring.chapter.entries c.args.what) c.self.view_is c.query.ensures.answer }
