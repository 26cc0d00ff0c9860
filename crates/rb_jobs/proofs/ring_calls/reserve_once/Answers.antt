use Rattle.rb_jobs.proofs.OneSeat.{reserved_once, free_once}
use Rattle.rb_jobs.proofs.ring_calls.reserve_once.Goals as goal

pub returns-clause-answer : goal.returns-clause-answer
returns-clause-answer g c =
    let e = c.reserve.ensures in
    reserved_once c.args.n c.args.ring.now.tag c.reserve.result c.args.seat.now c.reserve.new.seat c.facts.ensures.four c.requires.at_ring.0 e.seat e.released e.tally e.hands e.sent e.serial e.tag e.hand e.hands_full e.unchanged e.call

pub returns-clause-free : goal.returns-clause-free
returns-clause-free g c = free_once c.args.ring.now.tag c.reserve.result c.args.seat.now c.requires.at_ring.0 c.reserve.ensures.hands_full
