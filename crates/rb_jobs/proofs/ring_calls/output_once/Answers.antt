use Rattle.rb_jobs.proofs.OneSeat.{sent_once}
use Rattle.rb_jobs.proofs.ring_calls.output_once.Goals as goal

pub returns-clause-answer : goal.returns-clause-answer
returns-clause-answer g c =
    let e = c.output.ensures in
    sent_once c.args.sheet c.args.flags c.output.result c.args.seat.now c.output.new.seat c.requires.flags e.seat e.released e.tally e.hands (e.call c.requires.at_ring.0)
