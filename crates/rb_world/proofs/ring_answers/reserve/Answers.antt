use Rattle.rb_world.proofs.WholeCalls.{reserve-made, reserve-refused}
use Rattle.rb_world.proofs.ring_answers.reserve.Goals as goal

pub returns-in-Ok-answer-clause-reserved : goal.returns-in-Ok-answer-clause-reserved
returns-in-Ok-answer-clause-reserved c =
    reserve-made c.args.ring.now.state.ring c.reserve-answer.new.self.state.ring c.args.worker c.args.len c.args.flags c.in-Ok-answer.reservation.granted c.requires.worker c.if-flags-ne0.false c.facts.ensures.stands c.in-Ok-answer.ensures.granted.grants c.in-Ok-answer.ensures.worker
    c.in-Ok-answer.ensures.zeros

pub returns-clause-reserved : goal.returns-clause-reserved
returns-clause-reserved c = reserve-refused c.args.ring.now.state.ring c.reserve-answer.new.self.state.ring c.args.worker c.args.len c.args.flags _ c.requires.worker c.if-flags-ne0.false c.facts.ensures.stands c.in-Err.ensures.refused
