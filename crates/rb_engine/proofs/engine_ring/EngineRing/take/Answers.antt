use Rattle.rb_engine.proofs.FrontRecords.{was-front}
use Rattle.rb_engine.proofs.engine_ring.EngineRing.take.Goals as goal

pub returns-clause-front : goal.returns-clause-front
returns-clause-front c = was-front c.facts.ensures.kept.0 c.args.self.now c.take_next.new.self.ring c.take_next.result c.facts.ensures.kept.1 c.take_next.ensures.takes.0
