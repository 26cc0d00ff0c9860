use Rattle.rb_engine.proofs.RingTurns.{granted-after, refused-after}
use Rattle.rb_engine.proofs.engine_ring.EngineRing.reserve.Goals as goal

pub returns-clause-granted : goal.returns-clause-granted
returns-clause-granted c = granted-after c.reserve_in.result c.args.n c.args.self.now c.make_room.new.self c.reserve_in.new.self c.make_room.ensures.turned c.reserve_in.ensures.granted

pub returns-clause-refused : goal.returns-clause-refused
returns-clause-refused c = refused-after c.reserve_in.result c.args.n c.args.self.now c.make_room.new.self c.reserve_in.new.self c.make_room.ensures.turned c.reserve_in.ensures.refused
