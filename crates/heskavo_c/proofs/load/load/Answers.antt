use Rattle.heskavo_c.proofs.ShapeRefusals.{shape-refused}
use Rattle.heskavo_c.proofs.load.load.Goals as goal

pub returns-in-Err-shape-clause-refused : goal.returns-in-Err-shape-clause-refused
returns-in-Err-shape-clause-refused c =
    shape-refused c.args.bytes.now c.args.ctx_len c.args.rings c.in-Ok.program c.in-Ok.ensures.spelled c.facts.ensures.bounds c.in-Err-shape.fault c.refused_for_shape.result c.in-Err-shape.ensures.fault c.refused_for_shape.ensures
