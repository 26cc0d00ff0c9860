use Rattle.rb_cost.proofs.TurnSizes.{turns_fit, least_rings_have_turns}
use Rattle.rb_cost.proofs.turn_size.turns_fit_their_ring.Goals as goal

pub returns-clause-fit : goal.returns-clause-fit
returns-clause-fit c = turns_fit

pub returns-clause-least : goal.returns-clause-least
returns-clause-least c = least_rings_have_turns
