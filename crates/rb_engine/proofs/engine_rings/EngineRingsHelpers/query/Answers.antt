use Rattle.std.proofs.Common.{◌≡◌, ◌<◌, length, refl, ap, rules}
use Rattle.rb_chapter_ring.specs.HandRing.{HandRing}
use Rattle.rb_engine.specs.EngineCalls.{RunRings}
use Rattle.rb_chapter_ring.specs.CountedFrom.{query_answer_from}
use Rattle.rb_interp.specs.AnsweredCalls.{Queried}
use Rattle.rb_engine.proofs.OneRing.{of-ring}
use Rattle.rb_engine.proofs.Noting.{noted, one-call}
use Rattle.rb_engine.proofs.engine_rings.EngineRingsHelpers.query.Goals as goal

pub returns-clause-call : goal.returns-clause-call
returns-clause-call c =
    let below : c.args.ring < length c.self.inside.rings.items = search rules in
    noted (Queried c.args.ring c.args.what c.query-answer.result) c.args.self.now c.args.self.now c.log.new.self refl
    (record { told = of-ring (λ (v : HandRing). c.query-answer.result ≡ query_answer_from v.ring.chapter.opening v.ring.chapter.entries c.args.what) c.args.self.now.rings c.self.inside.rings.items c.args.ring c.index.result.now (ap (λ (h : RunRings). h.rings) c.self.view_is) below c.index.ensures c.query-answer.ensures.answer; same = refl })
    c.requires.room c.log.ensures.noted

pub returns-clause-called : goal.returns-clause-called
returns-clause-called c = one-call (Queried c.args.ring c.args.what c.query-answer.result) c.args.self.now c.log.new.self (returns-clause-call c)
