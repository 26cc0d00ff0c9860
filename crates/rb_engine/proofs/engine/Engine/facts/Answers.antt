use Rattle.std.proofs.Common.{List, subst}
use Rattle.rb_history.specs.declared.entries.Entry.{Entry}
use Rattle.rb_chapter_ring.specs.WholeHistory.{IsKept}
use Rattle.rb_engine.specs.EngineCalls.{OfRing}
use Rattle.rb_engine.specs.EngineValue.{EngineValue}
use Rattle.rb_engine.proofs.engine.Engine.facts.Goals as goal

pub returns : goal.returns
returns c = record { kept = subst (λ (e : EngineValue). OfRing c.args.ring (λ v. (earlier : List Entry) × IsKept earlier v.ring.chapter) e.rings) c.self.view_is c.facts.ensures.kept }
