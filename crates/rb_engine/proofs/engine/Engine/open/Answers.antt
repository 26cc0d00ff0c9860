use Rattle.rb_engine.proofs.engine.Engine.open.Goals as goal

pub open_rings-requires-clause-sizes : goal.open_rings-requires-clause-sizes
open_rings-requires-clause-sizes c = c.are_sizes.ensures.0 c.if-not-are_sizes.false

pub returns-in-Ok-clause-size : goal.returns-in-Ok-clause-size
returns-in-Ok-clause-size c = ((λ e all. (cc)), λ not. absurd (not (c.are_sizes.ensures.0 c.if-not-are_sizes.false)))

pub returns-in-Err-clause-size : goal.returns-in-Err-clause-size
returns-in-Err-clause-size c = ((λ e all. (cc)), λ not. absurd (not (c.are_sizes.ensures.0 c.if-not-are_sizes.false)))
