use Rattle.std.proofs.Common.{◌≡◌, subst}
use Rattle.rb_chapter_ring.specs.OpenedRing.{told_counts}
use Rattle.rb_engine.specs.EngineCalls.{OfRing}
use Rattle.rb_engine.specs.EngineValue.{EngineValue}
use Rattle.rb_engine.proofs.engine.Engine.counts.Goals as goal

pub returns : goal.returns
returns c = record { counts = subst (λ (e : EngineValue). OfRing c.args.ring (λ v. c.counts.result ≡ told_counts v.ring) e.rings) c.self.view_is c.counts.ensures.counts }
