use Rattle.heskavo_c.proofs.EngineTakes.{fits-some, fits-none}
use Rattle.heskavo_c.proofs.engine_records.too_long.Goals as goal

pub returns-then-n-len-clause-fits : goal.returns-then-n-len-clause-fits
returns-then-n-len-clause-fits c = fits-some c.args.ring c.args.len c.args.engine.now.rings c.in-Some.n c.in-Some.ensures.waiting c.if-n-len.true

pub returns-in-None-clause-fits : goal.returns-in-None-clause-fits
returns-in-None-clause-fits c = fits-none c.args.ring c.args.len c.args.engine.now.rings c.in-None.ensures.none
