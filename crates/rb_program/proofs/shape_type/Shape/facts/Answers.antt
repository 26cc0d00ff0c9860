use Rattle.std.proofs.Common.{subst}
use Rattle.rb_program.specs.Shape.{IsInstructionStart, EdgesLeadForward, NothingFallsOff, JumpsLand, EachIsEntered}
use Rattle.rb_program.proofs.ShapeLaws.{edges_forward, nothing_falls_off, jumps_land, begins_first, each_entered}
use Rattle.rb_program.proofs.shape_type.Shape.facts.Goals as goal

pub returns-clause-forward : goal.returns-clause-forward
returns-clause-forward c = subst EdgesLeadForward c.self.view_is (edges_forward c.self.inside.program c.facts.ensures.laid_out c.self.invariant)

pub returns-clause-no_fall : goal.returns-clause-no_fall
returns-clause-no_fall c = subst NothingFallsOff c.self.view_is (nothing_falls_off c.self.inside.program (edges_forward c.self.inside.program c.facts.ensures.laid_out c.self.invariant))

pub returns-clause-landing : goal.returns-clause-landing
returns-clause-landing c = subst JumpsLand c.self.view_is (jumps_land c.self.inside.program c.self.invariant)

pub returns-clause-first : goal.returns-clause-first
returns-clause-first c = subst (λ program. IsInstructionStart program 0) c.self.view_is (begins_first c.self.inside.program c.facts.ensures.bounds c.facts.ensures.laid_out)

pub returns-clause-entered : goal.returns-clause-entered
returns-clause-entered c = subst EachIsEntered c.self.view_is (each_entered c.self.inside.program (edges_forward c.self.inside.program c.facts.ensures.laid_out c.self.invariant) c.self.invariant.reached)
