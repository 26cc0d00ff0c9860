use Rattle.std.proofs.Common.{ap, arith}
use Rattle.rb_program.specs.Program.{unit_count}
use Rattle.rb_program.proofs.Kept.{counted}
use Rattle.rb_program.proofs.program.Program.units.Goals as goal

pub overflow_cast-result : goal.overflow_cast-result
overflow_cast-result c =
    let most = c.self.invariant.bounds.not_too_long in
    omega (arith, counted c.self.inside.units.items c.self.invariant.laid_out)

pub returns : goal.returns
returns c = omega (arith, counted c.self.inside.units.items c.self.invariant.laid_out, ap unit_count c.self.view_is)
