use Rattle.std.proofs.Common.{◌≡◌, ◌↔◌, subst}
use Rattle.rb_history.specs.declared.answers.Notice.TheVariants.{Due}
use Rattle.rb_history.specs.NoticesAndQueries.{IsDue}
use Rattle.rb_chapter_ring.specs.ChapterCalls.{consumer_by_chapter}
use Rattle.rb_chapter_ring.specs.HandRing.{HandRing}
use Rattle.rb_engine.proofs.engine_ring.EngineRing.settle.Goals as goal

pub returns-clause-notice : goal.returns-clause-notice
returns-clause-notice c = subst (λ (v : HandRing). (c.settle.result ≡ Due) ↔ IsDue (consumer_by_chapter v.ring) c.args.reservation.granted.pos c.args.flags) c.self.view_is c.settle.ensures.notice
