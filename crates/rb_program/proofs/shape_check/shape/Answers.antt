use Rattle.std.proofs.Common.{inl, ap, Err}
use Rattle.rb_program.proofs.ShapeLaws.{first_fault-unique}
use Rattle.rb_program.proofs.shape_check.shape.Goals as goal

pub returns-in-Some-clause-only_fault : goal.returns-in-Some-clause-only_fault
returns-in-Some-clause-only_fault c other first = inl (ap Err (first_fault-unique c.args.program c.in-Some.fault other c.in-Some.ensures first))
