use Rattle.rb_engine.specs.declared.engine_ring.NotSent.TheVariants.{Full}
use Rattle.rb_engine.proofs.RingTurns.{sent-after, not-sent-after, full-after}
use Rattle.rb_engine.proofs.engine_ring.EngineRing.output.Goals as goal

pub returns-clause-sent : goal.returns-clause-sent
returns-clause-sent c = sent-after c.output_in.result c.in-Some.sheet c.args.bytes.now c.args.flags c.args.self.now c.make_room.new.self c.output_in.new.self c.in-Some.ensures.copied c.make_room.ensures.turned c.output_in.ensures.sent

pub returns-clause-not_sent : goal.returns-clause-not_sent
returns-clause-not_sent c = not-sent-after c.output_in.result c.in-Some.sheet c.args.bytes.now c.args.self.now c.make_room.new.self c.output_in.new.self c.in-Some.ensures.copied c.make_room.ensures.turned c.output_in.ensures.not_sent

pub returns-clause-full : goal.returns-clause-full
returns-clause-full c = full-after c.output_in.result Full c.in-Some.sheet c.args.bytes.now c.args.self.now c.make_room.new.self c.output_in.new.self c.in-Some.ensures.copied c.make_room.ensures.turned c.output_in.ensures.not_sent
