use Rattle.rb_loader.proofs.Refusing.{shape_refused, text_refused}
use Rattle.rb_loader.proofs.program.accept.Goals as goal

pub returns-in-Err-clause-refused : goal.returns-in-Err-clause-refused
returns-in-Err-clause-refused c =
    text_refused c.args.text.now c.args.bounds.ctx_len c.args.bounds.rings c.from_text.result c.from_text.ensures.not_hex c.from_text.ensures.fault c.in-Err.fault c.text_fault.result c.in-Err.is c.text_fault.ensures

pub returns-in-Err-shape-clause-refused : goal.returns-in-Err-shape-clause-refused
returns-in-Err-shape-clause-refused c =
    shape_refused c.args.text.now c.args.bounds.ctx_len c.args.bounds.rings c.in-Ok.program c.in-Ok.ensures.spelled c.facts.ensures.bounds c.in-Err-shape.fault c.shape_fault.result c.in-Err-shape.ensures.fault c.shape_fault.ensures
