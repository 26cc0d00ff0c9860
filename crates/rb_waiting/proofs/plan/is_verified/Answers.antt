use Rattle.std.proofs.Common.{subst}
use Rattle.rb_program.specs.Shape.{IsInstructionStart}
use Rattle.rb_program.proofs.ShapeLaws.{begins_first}
use Rattle.rb_waiting.proofs.plan.is_verified.Goals as goal

pub returns : goal.returns
returns c = record {
  well_shaped = c.facts.ensures.well_shaped;
  begins = subst (λ p. IsInstructionStart p 0) c.program.ensures (begins_first c.program.result.now c.facts-2.ensures.bounds c.facts-2.ensures.laid_out);
  valid = c.facts.ensures.valid;
}
